pub mod Attributes
pub mod Views
pub mod Taking
pub mod Reached
pub mod Light
pub mod Keys
pub mod References
