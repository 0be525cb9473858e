pub mod Following
pub mod Lying
