pub mod Given
pub mod Roomy
