pub mod Ended
mod One
mod Quiet
mod Ran
mod Rows
mod States
mod Working
