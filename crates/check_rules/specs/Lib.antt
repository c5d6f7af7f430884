-- What the contracts cite.
pub mod SameWords
