mod Accepted
mod Bounds
pub mod Choosing
pub mod Greets
mod Hearing
mod Hellos
pub mod KeptPorts
mod Labelling
mod Phases
mod Orienting
pub mod Pairs
pub mod Idling
mod Places
mod Reading
mod Rooms
mod Roots
mod Steps
mod Taking
mod Telling
mod Turned
mod Bytes
mod Looping
mod Highs
mod Widths
mod Valid
pub mod Walking
mod Worked
pub mod Working
pub mod Barring
