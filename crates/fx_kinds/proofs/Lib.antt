pub mod ClassLemmas
pub mod ConstraintLemmas
pub mod PropertyLemmas
