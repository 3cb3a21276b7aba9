pub mod StackLaws
pub mod CallLaws
