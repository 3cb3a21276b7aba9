pub mod Prelude
pub mod TurnLaws
