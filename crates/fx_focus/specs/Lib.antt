pub mod Attached
pub mod Focus
pub mod Hover
pub mod Picks
