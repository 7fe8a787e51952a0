pub mod EventLines
pub mod Reading
pub mod Reader
pub mod StateText
pub mod Missing
pub mod Played
