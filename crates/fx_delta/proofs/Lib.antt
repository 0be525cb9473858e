pub mod PictureLemmas
pub mod ReadingLemmas
pub mod RowLemmas
