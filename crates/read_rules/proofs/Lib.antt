pub mod RuleSheetLaws
pub mod FillLaws
pub mod RefusalLaws
