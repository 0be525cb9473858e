pub mod Marks
pub mod Sights
pub mod Touched
