mod Pulses
mod Sizes
