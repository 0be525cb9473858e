pub mod Births
pub mod Changes
pub mod Damage
pub mod Edits
pub mod Laws
pub mod Near
pub mod Windows
