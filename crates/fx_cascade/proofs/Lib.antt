pub mod KeyLemmas
pub mod GreatestLemmas
pub mod SpeakLemmas
pub mod LawLemmas
pub mod PassLemmas
pub mod NameLemmas
pub mod TableLemmas
