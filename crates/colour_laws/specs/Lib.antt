pub mod Colours
pub mod FirstRefusal
pub mod Rows
