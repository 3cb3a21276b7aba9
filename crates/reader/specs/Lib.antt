pub mod Prelude
pub mod PieceRead
