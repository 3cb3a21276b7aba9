pub mod Prelude
