pub mod Columns
pub mod Font
pub mod Wrapping
