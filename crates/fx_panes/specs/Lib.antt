pub mod Anchor
pub mod Border
pub mod Rules
pub mod Stack
