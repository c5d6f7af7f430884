-- What the contracts cite.
pub mod Substitutions
