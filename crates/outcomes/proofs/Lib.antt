mod Places
mod Simulating
mod MetRows
mod Linked
mod Stamping
mod Wires
mod Fits
mod Full
mod Every
mod Meetings
mod LinkIn
pub mod Did
pub mod MetNodes
pub mod Steps
pub mod Runs
pub mod Clocks
pub mod Asides
pub mod Whole
pub mod Counts
pub mod Progress
mod Bare
mod Start
pub mod Held
pub mod Merged
pub mod Merges
pub mod MetStamps
