pub mod Painting
pub mod Surfaces
