pub mod Ports
pub mod Missing
pub mod Writes
pub mod WholeReplays
pub mod Decided
pub mod Ones
