pub mod ControlLemmas
pub mod Outcomes
pub mod PaneRects
pub mod RowLemmas
