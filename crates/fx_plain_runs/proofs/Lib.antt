pub mod CountingLemmas
pub mod PlayingLemmas
