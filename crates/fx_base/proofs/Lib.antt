pub mod GeometryLemmas
pub mod TextLemmas
pub mod WordLemmas
