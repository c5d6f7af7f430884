-- What the functions that put text promise.
pub mod Digits
pub mod Put
pub mod Laws
