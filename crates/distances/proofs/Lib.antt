pub mod Walks
pub mod Chains
pub mod Classes
