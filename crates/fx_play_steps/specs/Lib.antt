pub mod Taken
pub mod Traces
