pub mod Events
pub mod Fair
mod FairTurns
pub mod Recorded
pub mod StampsLater
pub mod LinksLater
pub mod Ticks
