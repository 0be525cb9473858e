pub mod Updates
pub mod Keeping
pub mod Layouts
pub mod Fits
