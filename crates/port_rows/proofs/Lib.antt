pub mod Rows
pub mod ReadLists
mod Crosses
mod Swaps
pub mod Sides
