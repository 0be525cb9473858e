pub mod TableLemmas
pub mod PathLemmas
