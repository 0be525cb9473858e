pub mod Clocks
pub mod Lines
pub mod Ticks
pub mod Times
