pub mod Net
pub mod Rows
pub mod Making
pub mod Filling
pub mod Counts
