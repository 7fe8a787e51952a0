pub mod Due
pub mod Cells
mod Reacting
pub mod PortLists
mod Changed
mod Counts
mod Kept
mod KeptFlags
mod PayloadPlaces
mod PortRows
mod WhenRows
mod WhenTaken
mod RowLengths
mod Taken
mod OutLists
mod OutWires
mod FrontWires
mod KeptOuts
mod SeenOuts
mod Followed
mod Settled
mod Entered
