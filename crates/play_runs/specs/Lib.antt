pub mod Workers
pub mod Ends
pub mod Transcripts
pub mod PutsText
pub mod RoundsText
pub mod RoundAnswers
