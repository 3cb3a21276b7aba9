pub mod Carried
pub mod Tracing
