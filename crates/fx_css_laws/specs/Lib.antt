pub mod Counts
pub mod Layers
pub mod Places
pub mod Selectors
pub mod Styles
