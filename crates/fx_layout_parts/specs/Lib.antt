pub mod Boxes
pub mod Children
pub mod Rules
