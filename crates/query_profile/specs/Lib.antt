-- What the contracts cite.
pub mod Gathered
