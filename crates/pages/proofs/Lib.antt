pub mod Written
pub mod Following
