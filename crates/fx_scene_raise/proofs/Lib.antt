pub mod StepLemmas
pub mod TaskLemmas
