pub mod CollectLemmas
pub mod CutLemmas
pub mod KeptKeys
pub mod OrderLemmas
pub mod StandingLemmas
