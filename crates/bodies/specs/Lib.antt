pub mod Prelude
pub mod Stack
pub mod Calls
