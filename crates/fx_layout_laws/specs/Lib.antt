pub mod Alike
pub mod Trees
