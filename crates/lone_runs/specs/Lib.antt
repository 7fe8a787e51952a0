pub mod Went
pub mod Fair
pub mod Recorded
pub mod Ticks
