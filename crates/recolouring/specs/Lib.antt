pub mod Words
pub mod WordsLaws
pub mod Knowing
pub mod Stored
pub mod ProgramLaws
pub mod Texts
pub mod TextsLaws
