pub mod Order
pub mod Forests
pub mod Dealing
