pub mod Makes
pub mod News
pub mod Refusals
