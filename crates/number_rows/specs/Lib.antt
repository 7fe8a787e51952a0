pub mod Row
pub mod Feeds
pub mod Names
