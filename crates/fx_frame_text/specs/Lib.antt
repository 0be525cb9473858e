pub mod Canvases
pub mod Frames
pub mod Writers
