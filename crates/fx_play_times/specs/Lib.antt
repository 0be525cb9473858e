pub mod Passing
pub mod Shown
