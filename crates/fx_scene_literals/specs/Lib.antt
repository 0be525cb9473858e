pub mod Literals
pub mod Views
