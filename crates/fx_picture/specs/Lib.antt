pub mod Bounds
pub mod Entries
pub mod Pixels
pub mod Sameness
pub mod Shapes
