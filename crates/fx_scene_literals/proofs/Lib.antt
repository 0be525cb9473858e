pub mod AttributeLemmas
pub mod PartLemmas
