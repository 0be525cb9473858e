pub mod Given
pub mod History
pub mod Slots
