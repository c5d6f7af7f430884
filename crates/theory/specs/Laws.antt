-- The laws of the definitions: what each means, and that both readers agree.
-- on tests, lists, numbers and finite maps
pub mod Options
pub mod Lists
pub mod Counting
pub mod Scans
pub mod Ascending
pub mod Lookup
pub mod Refusals
pub mod Budget
pub mod Binding
pub mod Explaining
pub mod Finding
pub mod Matches
pub mod Rules
pub mod Targets
pub mod WritingGrows
