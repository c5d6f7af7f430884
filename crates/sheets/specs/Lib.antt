-- The packed sheets, in reading order: Bits, Format, Partners, Reading, Tests, Conditions, Refusals, Showing, Packing, AnswerList,
-- StepList; and their laws.
pub mod Bits
pub mod Format
pub mod Partners
pub mod Reading
pub mod Tests
pub mod Conditions
pub mod Refusals
pub mod Showing
pub mod Packing
pub mod AnswerList
pub mod StepList
pub mod Laws
