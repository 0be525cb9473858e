pub mod Added
pub mod Elements
pub mod Entries
pub mod Held
pub mod Lists
pub mod Targets
pub mod Tracks
pub mod Views
