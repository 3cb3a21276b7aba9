pub mod ProgressLaws
pub mod DrewLaws
