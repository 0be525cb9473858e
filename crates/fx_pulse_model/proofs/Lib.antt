pub mod LineLemmas
pub mod PictureLemmas
pub mod KeyLemmas
pub mod LookLemmas
pub mod LayoutLemmas
pub mod FrameLemmas
