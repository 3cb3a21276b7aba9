pub mod OpeningLaws
pub mod EffectorLaws
