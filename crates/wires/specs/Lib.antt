pub mod StampedWires
pub mod Wires
pub mod Streams
