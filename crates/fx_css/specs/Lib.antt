pub mod Numbered
pub mod Pieces
pub mod Rules
pub mod Cutting
pub mod Sheets
pub mod Agent
