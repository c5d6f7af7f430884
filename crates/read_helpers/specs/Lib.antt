pub mod InUse
pub mod InUseLaws
