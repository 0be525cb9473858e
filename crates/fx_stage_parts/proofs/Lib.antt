pub mod Small
pub mod NotingLemmas
pub mod PushingLemmas
