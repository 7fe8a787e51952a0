pub mod CommandSet
pub mod Streams
pub mod Serve
