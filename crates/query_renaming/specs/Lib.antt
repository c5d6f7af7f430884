-- What the contracts cite.
pub mod Variables
pub mod Comparison
