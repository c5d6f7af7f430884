-- What the proofs of the code rest on.
pub mod KeyLaws
pub mod TermLaws
pub mod LoopLaws
pub mod RoundLaws
