pub mod Widths
pub mod Octal
pub mod Spaces
pub mod Scanning
pub mod Cutting
pub mod Standing
