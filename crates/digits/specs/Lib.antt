pub mod Prelude
pub mod Decimal
