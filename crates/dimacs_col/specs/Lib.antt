pub mod Lines
pub mod Split
pub mod Bag
pub mod BarSets
pub mod Kinds
pub mod Reading
pub mod State
pub mod LinesLeft
