-- What the contracts cite.
pub mod Members
