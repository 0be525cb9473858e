pub mod Texts
pub mod Layers
pub mod Selecting
pub mod Declaring
pub mod Limits
pub mod Parts
pub mod Drafts
