-- What the contracts cite, and the laws that `writing` needs too.
pub mod Counted
pub mod Stage
pub mod StageLaws
