pub mod Exits
pub mod Ends
pub mod Showing
pub mod Viewing
