pub mod ColorLemmas
pub mod InsetLemmas
pub mod DecimalLemmas
pub mod NumberLemmas
pub mod ReadingLemmas
pub mod RoundingLemmas
pub mod StyleLemmas
pub mod TableLemmas
