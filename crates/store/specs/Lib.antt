pub mod Prelude
pub mod Lent
pub mod Freeing
pub mod Each
pub mod Runs
pub mod Stretch
