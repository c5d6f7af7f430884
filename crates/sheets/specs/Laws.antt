-- What the refusals, reciprocal names and the one list mean, and that reading and packing undo each other.
pub mod RecordLoops
pub mod RuleSheets
