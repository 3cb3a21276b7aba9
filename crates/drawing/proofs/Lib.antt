pub mod Refusals
pub mod RangeLaws
pub mod AfterLaws
