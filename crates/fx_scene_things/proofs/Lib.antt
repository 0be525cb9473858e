pub mod NameLemmas
pub mod SettledLemmas
pub mod SpaceLemmas
