pub mod Texts
pub mod Plans
pub mod Faults
pub mod RunFaults
pub mod Answers
pub mod Verdicts
