pub mod StoringLaws
pub mod EscapeLaws
pub mod RunLaws
