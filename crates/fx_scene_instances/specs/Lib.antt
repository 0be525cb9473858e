pub mod Fields
pub mod Instances
pub mod Needs
pub mod References
