pub mod Prelude
pub mod PointLaws
pub mod CommandLaws
