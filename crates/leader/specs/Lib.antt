pub mod Elector
pub mod Election
pub mod ElectionLaws
pub mod Words
pub mod WordsLaws
pub mod Component
pub mod Texts
pub mod TextsLaws
