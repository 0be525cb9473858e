pub mod Defaults
pub mod Depths
pub mod Loops
pub mod Turning
pub mod Answered
