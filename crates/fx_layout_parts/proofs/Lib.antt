pub mod CellLemmas
pub mod InsetLemmas
pub mod LeafLemmas
pub mod RowSides
