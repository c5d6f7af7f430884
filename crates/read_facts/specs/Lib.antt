pub mod FactSheets
