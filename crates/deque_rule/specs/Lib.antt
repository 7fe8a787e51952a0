pub mod Deques
pub mod Ledgers
