-- Places filled one by one.
pub mod FillLaws
