pub mod StepLemmas
pub mod TopCallLemmas
