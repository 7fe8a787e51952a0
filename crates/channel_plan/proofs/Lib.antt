mod Rows
pub mod Barred
pub mod Finding
pub mod Tables
pub mod Counts
pub mod Proper
pub mod Same
pub mod Readings
pub mod Written
pub mod Texts
