pub mod Costs
pub mod Keeping
pub mod Lasts
pub mod Measuring
