pub mod Queued
pub mod Rule
pub mod Ends
