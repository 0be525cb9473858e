pub mod Existing
pub mod Counting
