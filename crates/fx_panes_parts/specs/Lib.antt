pub mod Axes
pub mod Lengths
pub mod Panes
pub mod Parts
pub mod Shares
pub mod Sizes
pub mod Tracks
