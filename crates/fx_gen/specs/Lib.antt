pub mod Demo
pub mod Draws
