pub mod Bytes
pub mod Marks
pub mod Scanning
pub mod Lengths
pub mod Saying
pub mod Walks
