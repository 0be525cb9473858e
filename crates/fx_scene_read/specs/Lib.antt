pub mod Acting
pub mod Opening
pub mod Pieces
pub mod References
pub mod Sheets
