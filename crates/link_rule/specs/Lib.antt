pub mod Sent
pub mod Order
pub mod Legal
pub mod Progress
