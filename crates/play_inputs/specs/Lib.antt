pub mod Roots
pub mod Settings
pub mod TextFaults
pub mod RunFaults
pub mod Faults
pub mod Inputs
