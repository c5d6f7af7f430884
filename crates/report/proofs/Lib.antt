pub mod DigitLaws
pub mod ReportLaws
