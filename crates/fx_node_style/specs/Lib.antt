pub mod Keeping
pub mod Kinds
pub mod Looking
pub mod Recoding
pub mod Rows
pub mod Styling
pub mod Values
