pub mod Bare
pub mod Blocks
pub mod EntryList
pub mod Recorded
pub mod Rows
