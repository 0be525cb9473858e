pub mod DrawnLemmas
pub mod RestLemmas
pub mod ShownLemmas
pub mod SizeLemmas
pub mod LineLemmas
pub mod WorkLemmas
