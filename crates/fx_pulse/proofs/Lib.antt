pub mod CountLemmas
pub mod PathLemmas
pub mod FlagLemmas
pub mod EntryLemmas
pub mod WindowLemmas
pub mod ShowLemmas
pub mod HeadLemmas
pub mod WorkLemmas
mod CurrentLemmas
pub mod EditLemmas
pub mod LastLemmas
mod OrderLemmas
