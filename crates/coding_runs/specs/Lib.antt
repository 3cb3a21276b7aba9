pub mod Prelude
pub mod Idle
