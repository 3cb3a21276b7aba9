pub mod Prelude
pub mod QueryLaws
