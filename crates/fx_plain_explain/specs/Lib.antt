pub mod Explaining
pub mod Facts
pub mod Ranks
