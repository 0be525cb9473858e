pub mod Drawn
pub mod Games
pub mod Lines
pub mod Resting
pub mod Takings
