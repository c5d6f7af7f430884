pub mod EntryLaws
pub mod Gives
pub mod GivesLaws
