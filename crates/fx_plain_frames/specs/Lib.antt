pub mod Drawable
pub mod Games
pub mod Laws
pub mod Playing
pub mod Pulses
