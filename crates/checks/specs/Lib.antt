pub mod Pausing
pub mod PausingLaws
pub mod SmallNets
