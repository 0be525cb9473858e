pub mod AliveLemmas
