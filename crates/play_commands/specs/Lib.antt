pub mod Payloads
pub mod Plays
pub mod Commands
