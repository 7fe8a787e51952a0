mod Editions
pub mod Working
mod Ran
pub mod Recording
pub mod Colours
pub mod Edge
pub mod Stamped
pub mod OutcomeRuns
