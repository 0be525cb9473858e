pub mod Known
pub mod Names
pub mod Settled
pub mod Spaces
