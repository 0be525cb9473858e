pub mod Names
pub mod Ahead
