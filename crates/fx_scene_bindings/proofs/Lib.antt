pub mod OperandLemmas
pub mod ReadLemmas
