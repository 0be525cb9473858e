pub mod Texts
pub mod Same
pub mod Plain
