-- What the contracts cite.
pub mod Packed
