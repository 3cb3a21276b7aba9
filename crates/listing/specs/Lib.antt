pub mod Prelude
pub mod Text
