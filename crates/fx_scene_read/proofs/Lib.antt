pub mod CountLemmas
mod RankLemmas
pub mod WalkLemmas
