pub mod DefinedLemmas
pub mod PartLemmas
