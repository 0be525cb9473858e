pub mod Drawing
pub mod Editing
pub mod Rendering
pub mod Showing
