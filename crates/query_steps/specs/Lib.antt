-- What the contracts cite.
pub mod StepResults
