pub mod ClosureLaws
pub mod RuleTables
