pub mod Prelude
pub mod Classes
