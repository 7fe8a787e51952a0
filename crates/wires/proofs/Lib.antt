pub mod StampedWires
pub mod Wires
