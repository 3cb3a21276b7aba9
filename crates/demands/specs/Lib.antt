pub mod Prelude
pub mod Cuts
pub mod Pictures
