pub mod FeedLaws
pub mod EndLaws
pub mod Promising
pub mod PieceLaws
