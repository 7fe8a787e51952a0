pub mod Layered
pub mod Layering
pub mod LayeringLaws
pub mod Words
pub mod WordsLaws
pub mod Distances
pub mod Texts
pub mod TextsLaws
