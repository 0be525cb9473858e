pub mod NumberLemmas
pub mod PixelLemmas
pub mod LineLemmas
pub mod StreamLemmas
