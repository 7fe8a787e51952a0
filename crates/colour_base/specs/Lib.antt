pub mod Least
pub mod Forest
pub mod Words
