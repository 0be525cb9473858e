pub mod Drawings
pub mod Layers
pub mod Letters
pub mod Rects
