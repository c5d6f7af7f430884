pub mod Moved
pub mod Numbers
