pub mod EventAnswers
pub mod ReplayAnswers
