pub mod Grid
pub mod Starts
pub mod Tracks
