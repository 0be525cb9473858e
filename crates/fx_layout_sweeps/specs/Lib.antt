pub mod Marks
pub mod Nodes
pub mod Sweeps
