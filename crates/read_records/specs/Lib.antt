pub mod ReadInto
pub mod ReadIntoLaws
