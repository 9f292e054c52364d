pub mod FileLemmas
pub mod OverrideLemmas
pub mod ReadLemmas
pub mod StepLemmas
