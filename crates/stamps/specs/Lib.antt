pub mod Stamps
pub mod Merged
pub mod Gathered
pub mod Table
pub mod Keeps
pub mod Laws
