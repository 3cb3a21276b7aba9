pub mod ClosingLaws
pub mod ActionLaws
