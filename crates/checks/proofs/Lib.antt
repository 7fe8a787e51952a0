pub mod Greeting
pub mod SmallNets
pub mod OnePort
pub mod Rising
