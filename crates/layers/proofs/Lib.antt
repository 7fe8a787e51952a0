pub mod Heard
pub mod Steps
pub mod Rounds
pub mod Reached
pub mod Following
mod Rooted
