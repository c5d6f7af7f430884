-- What the digits of a word say, and that the lowest number missing is the fresh variable.
pub mod Digits
pub mod Fresh
