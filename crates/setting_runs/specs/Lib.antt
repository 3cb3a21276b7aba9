pub mod Prelude
pub mod Settings
