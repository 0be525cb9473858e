pub mod ClassLemmas
pub mod OwnerLemmas
pub mod GuessLemmas
