pub mod FindLemmas
pub mod TextLemmas
pub mod PlaceLemmas
