pub mod Rooted
pub mod Settings
