pub mod Asked
pub mod Line
pub mod NodePrograms
pub mod RunOptions
