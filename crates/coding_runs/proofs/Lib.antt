pub mod IdleLaws
pub mod DefinitionLaws
