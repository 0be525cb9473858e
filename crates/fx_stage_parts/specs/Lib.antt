pub mod Dropping
pub mod Noting
pub mod Owners
