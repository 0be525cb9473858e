pub mod Costs
pub mod Running
pub mod Sending
pub mod Settling
pub mod Taking
