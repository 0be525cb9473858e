pub mod ClimbLemmas
pub mod FocusLemmas
