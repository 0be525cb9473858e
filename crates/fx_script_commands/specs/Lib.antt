pub mod Adding
pub mod Braces
pub mod Commands
pub mod Requests
pub mod Scripts
