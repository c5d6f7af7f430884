-- What the contracts cite.
pub mod Yielding
