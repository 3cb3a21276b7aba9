pub mod Writes
pub mod Heads
