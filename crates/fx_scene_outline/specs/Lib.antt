pub mod Defined
pub mod Edges
pub mod Entries
pub mod Nodes
pub mod Outlines
pub mod Pieces
pub mod Views
