pub mod Prelude
pub mod Walk
