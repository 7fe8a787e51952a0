pub mod Workers
pub mod Transcripts
pub mod Colours
pub mod Payloads
pub mod Coloured
pub mod Small
pub mod Stamped
pub mod Ran
