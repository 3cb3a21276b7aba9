pub mod ActsLaws
pub mod RunLaws
pub mod StrokeLaws
