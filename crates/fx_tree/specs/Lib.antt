pub mod History
pub mod Refusals
pub mod Scene
pub mod Slots
