-- What the proofs of the code rest on.
pub mod UsedLaws
pub mod FreshLaws
pub mod UnboundLaws
