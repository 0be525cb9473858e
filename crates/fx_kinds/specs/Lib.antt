pub mod Classes
pub mod ConstraintRows
pub mod Constraints
pub mod Ignored
pub mod Listing
pub mod Presets
pub mod Properties
