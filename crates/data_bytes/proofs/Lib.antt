pub mod OperandLaws
pub mod LooseLaws
