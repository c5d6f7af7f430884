-- Sets of numbers in a word.
pub mod Sets
pub mod Laws
