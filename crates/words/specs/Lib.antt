-- Widths, bounds and limits; records as numbers; what the words hold that the code works on.
pub mod Limits
pub mod Records
pub mod Words
pub mod Rows
pub mod FactWords
pub mod Refusals
pub mod Laws
