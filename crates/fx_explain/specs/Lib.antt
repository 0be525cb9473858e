pub mod Cuts
pub mod Explained
pub mod Standings
pub mod Told
