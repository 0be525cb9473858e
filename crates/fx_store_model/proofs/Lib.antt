pub mod Grouping
pub mod Leaving
pub mod Readers
pub mod Telling
