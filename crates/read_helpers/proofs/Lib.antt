pub mod ClashLaws
