pub mod ToldLemmas
pub mod UpLemmas
pub mod NoneLemmas
pub mod HeadLemmas
pub mod SceneLemmas
pub mod PlaceLemmas
mod SameLemmas
