pub mod Spaced
pub mod Ranges
pub mod Feeds
