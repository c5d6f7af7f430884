pub mod RuleWords
pub mod RuleLaws
pub mod Filling
