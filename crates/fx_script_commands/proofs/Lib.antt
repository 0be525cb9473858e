pub mod BraceLemmas
pub mod CommandLemmas
pub mod ExpressionLemmas
pub mod LineLemmas
pub mod SkipLemmas
