pub mod Living
pub mod Refusals
pub mod Slots
