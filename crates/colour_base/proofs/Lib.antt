pub mod LeastLemmas
pub mod LeastKnown
pub mod TestLemmas
pub mod Words
