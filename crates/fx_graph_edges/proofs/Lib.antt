pub mod ClearLemmas
pub mod LinkLemmas
pub mod NewlyLemmas
pub mod RowLemmas
