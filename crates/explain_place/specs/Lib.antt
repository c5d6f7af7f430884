-- A place of a list of steps, as a struct and in bytes.
pub mod Places
pub mod PlaceLaws
