pub mod Controls
pub mod Panes
pub mod Regions
pub mod Rows
