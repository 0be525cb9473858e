pub mod Events
pub mod Keyed
pub mod Handlers
pub mod Routes
