pub mod Runs
pub mod Replays
pub mod Laws
pub mod Whole
