pub mod Prelude
pub mod Whole
pub mod WalkLaws
pub mod ReadLaws
