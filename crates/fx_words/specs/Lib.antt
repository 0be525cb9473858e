pub mod Asking
pub mod Held
pub mod Reading
pub mod Values
