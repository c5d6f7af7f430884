pub mod MemberLaws
pub mod LoopLaws
pub mod TakeLaws
