pub mod Counts
pub mod Firsts
pub mod Layers
pub mod Ninths
pub mod Places
pub mod Readings
pub mod Selectors
