pub mod CountLemmas
pub mod LineLemmas
pub mod StagingLemmas
pub mod WorkLemmas
