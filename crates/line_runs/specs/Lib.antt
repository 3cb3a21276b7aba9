pub mod Prelude
pub mod Characters
