pub mod Coming
pub mod Orders
pub mod Raising
pub mod Run
pub mod Plans
pub mod Passes
