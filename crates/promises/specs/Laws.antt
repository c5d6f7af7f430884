-- The promises in 01's words, and what they rest on.
pub mod Telling
pub mod Cut
