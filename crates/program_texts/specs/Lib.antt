pub mod Texts
pub mod Named
pub mod NamedLaws
pub mod PayloadTexts
pub mod WireText
