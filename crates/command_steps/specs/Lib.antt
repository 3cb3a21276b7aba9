pub mod Prelude
pub mod Asked
