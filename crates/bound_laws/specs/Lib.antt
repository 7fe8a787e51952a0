pub mod Apart
pub mod FewSteps
pub mod Wires
pub mod Composition
pub mod Outcomes
pub mod Simulated
