pub mod Faults
pub mod Files
pub mod Says
pub mod Scripts
pub mod Sheets
pub mod Views
pub mod Warnings
