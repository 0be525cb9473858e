pub mod Twins
pub mod Branches
