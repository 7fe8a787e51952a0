pub mod Digits
pub mod Payloads
pub mod Readings
pub mod Spaced
pub mod Words
pub mod WrittenRows
pub mod Written
pub mod RowsSoFar
pub mod Texts
pub mod LinesBehind
pub mod Either
pub mod EntryNumbers
mod Keys
mod TopKeys
mod Merge
