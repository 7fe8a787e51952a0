pub mod Refusing
pub mod Held
pub mod Started
pub mod Replayed
pub mod Stamped
