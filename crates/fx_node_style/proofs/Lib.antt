pub mod KeepingLemmas
pub mod ChainLemmas
pub mod RecodingLemmas
