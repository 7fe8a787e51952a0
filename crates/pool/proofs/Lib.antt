pub mod Joined
mod InHand
pub mod Absorbing
pub mod Dealing
pub mod Each
pub mod Holds
pub mod Out
pub mod Pushed
pub mod Returned
pub mod Steps
pub mod Views
