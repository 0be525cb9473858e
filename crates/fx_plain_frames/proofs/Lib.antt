pub mod OneLemmas
pub mod PlayedLemmas
