pub mod Applied
pub mod Causes
pub mod Laws
pub mod Making
pub mod Refusals
pub mod Step
pub mod Stored
