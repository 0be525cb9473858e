pub mod Gathered
pub mod Halving
pub mod Joining
pub mod Leaving
pub mod Partners
pub mod RowSteps
