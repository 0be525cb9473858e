pub mod Characters
pub mod Classes
pub mod Digits
pub mod Fronts
pub mod Identifiers
pub mod Trimming
