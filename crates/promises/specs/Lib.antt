-- What the calls promise, and the program's text: definitions first, then what is proved of them.
pub mod TheSheets
pub mod Checking
pub mod Drawing
pub mod Showing
pub mod Writing
pub mod Renaming
pub mod Counts
pub mod Ascii
pub mod Report
pub mod Explaining
pub mod Text
pub mod Output
pub mod Laws
