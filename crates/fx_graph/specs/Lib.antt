pub mod Asked
pub mod Forgotten
pub mod Given
pub mod Reading
pub mod Store
pub mod Together
