-- Worked examples, computed with the definitions: Notation, then 01's own (Examples, from bytes Sheets and Cards), those of the source
-- documents (Closure) and those of 02's requests (Requests, Pairs, OurUnions, Renamings).
pub mod Notation
pub mod Examples
pub mod Closure
pub mod Sheets
pub mod Cards
pub mod Requests
pub mod Pairs
pub mod OurUnions
pub mod Renamings
