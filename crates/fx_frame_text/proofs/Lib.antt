pub mod AlikeLemmas
pub mod ChangeLemmas
pub mod ImageLemmas
pub mod SumLemmas
