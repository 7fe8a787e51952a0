pub mod FreeLemmas
pub mod StepLemmas
