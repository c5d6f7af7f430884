pub mod NewRowLaws
pub mod RowLaws
pub mod StepLaws
pub mod TagLaws
pub mod WordLaws
