-- What the stages of a call hand on.
pub mod Stages
pub mod StageLaws
