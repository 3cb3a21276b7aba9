pub mod Carrying
pub mod TraceLaws
pub mod FinishLaws
