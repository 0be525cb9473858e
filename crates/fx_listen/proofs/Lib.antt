pub mod Changes
pub mod Cuts
pub mod Finding
pub mod History
pub mod LivingLemmas
