pub mod DefinitionLaws
pub mod ReactLaws
pub mod EffectLaws
