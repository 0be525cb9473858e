pub mod Frames
pub mod Lines
pub mod Pictures
pub mod Scenes
