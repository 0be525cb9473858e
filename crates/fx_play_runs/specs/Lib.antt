pub mod Lines
pub mod Staging
