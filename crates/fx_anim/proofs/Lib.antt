pub mod LineLemmas
pub mod TickLemmas
