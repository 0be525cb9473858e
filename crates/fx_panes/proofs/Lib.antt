pub mod EachLemmas
pub mod StackLemmas
