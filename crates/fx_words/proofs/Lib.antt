pub mod NumberLemmas
pub mod AskingLemmas
pub mod ReadingLemmas
pub mod SortLemmas
mod DemoLemmas
