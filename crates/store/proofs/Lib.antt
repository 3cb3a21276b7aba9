pub mod CellLaws
pub mod ChainLaws
pub mod EachLaws
pub mod RunLaws
pub mod StretchLaws
