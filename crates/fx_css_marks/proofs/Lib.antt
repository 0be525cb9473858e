pub mod Comments
pub mod Scans
pub mod Finds
pub mod Spans
pub mod Sayings
pub mod Steps
