-- What the contracts cite.
pub mod Guess
