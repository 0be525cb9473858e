pub mod ReadLemmas
pub mod SceneLemmas
