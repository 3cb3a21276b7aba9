pub mod RunLaws
pub mod ProgressLaws
