pub mod MoveLaws
pub mod NumberLaws
