pub mod Finding
pub mod Kept
pub mod Noting
