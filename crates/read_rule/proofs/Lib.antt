pub mod RuleLaws
pub mod PairLaws
