pub mod ResolvingLemmas
pub mod LawLemmas
