-- 01's limits in its own numbers, variables below 32, members in a table, loops over a query's words, fields, and facts as words.
pub mod Limits
pub mod LowVariables
pub mod Rows
pub mod NewRows
pub mod Scans
pub mod WholeFacts
pub mod Fields
pub mod FactHeads
pub mod Exchanged
