-- What the contracts cite, and what a variable that is sent changes.
pub mod Partial
pub mod SentLaws
