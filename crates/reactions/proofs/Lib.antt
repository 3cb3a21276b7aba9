pub mod Answers
pub mod SetLaws
