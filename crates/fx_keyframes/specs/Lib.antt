pub mod Cycles
pub mod Mixing
pub mod Reading
