pub mod TrailLaws
pub mod CodeLaws
pub mod ByteLaws
