pub mod Gathering
pub mod Laws
pub mod Pairs
pub mod Rising
pub mod Rows
