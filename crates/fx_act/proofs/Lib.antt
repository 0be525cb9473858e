pub mod RunLemmas
pub mod SendLemmas
pub mod SettleLemmas
pub mod StartLemmas
