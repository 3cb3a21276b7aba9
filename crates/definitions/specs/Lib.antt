pub mod Prelude
pub mod Storing
pub mod Room
