pub mod StepsLaws
pub mod FillLaws
