mod AtVertices
pub mod Numbering
mod GivenIds
pub mod Plain
pub mod Following
pub mod ProperPlans
pub mod Agreed
pub mod Judging
