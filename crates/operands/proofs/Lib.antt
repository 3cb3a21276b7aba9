pub mod Sums
pub mod Signs
pub mod Operands
pub mod WholeLaws
