pub mod Lines
pub mod Loadings
pub mod Outputs
pub mod Scripts
pub mod Slots
