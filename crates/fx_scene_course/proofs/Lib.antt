pub mod ActLemmas
pub mod CountLemmas
