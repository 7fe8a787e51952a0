pub mod Growth
pub mod Before
pub mod Edges
pub mod MadeRows
pub mod Descent
mod Numbers
mod NoneRefused
