pub mod Asking
pub mod Documents
pub mod Made
pub mod Reading
pub mod Views
