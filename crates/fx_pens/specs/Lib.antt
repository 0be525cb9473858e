pub mod Dots
pub mod Lines
pub mod Shapes
