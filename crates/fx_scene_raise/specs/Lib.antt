pub mod Raising
