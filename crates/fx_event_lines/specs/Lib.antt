pub mod Coordinates
pub mod Effects
pub mod Focusing
pub mod Hovering
pub mod Keys
pub mod Pressing
pub mod Started
pub mod Starting
