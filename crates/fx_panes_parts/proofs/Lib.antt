pub mod PaneLemmas
pub mod ShareLemmas
pub mod TrackLemmas
