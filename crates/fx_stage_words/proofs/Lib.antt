pub mod DigitLemmas
pub mod NameLemmas
pub mod ReadLemmas
pub mod StyleLemmas
