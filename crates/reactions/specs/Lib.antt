pub mod Prelude
pub mod View
