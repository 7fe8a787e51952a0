mod Apart
mod ColouringSent
mod FewSteps
mod LayersSent
mod MatchingSent
mod RecolouringSent
mod Sent
mod SequelSent
mod SetSent
pub mod Composed
mod Simulating
