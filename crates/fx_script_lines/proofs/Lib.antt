pub mod KeywordLemmas
pub mod TakingLemmas
