pub mod RankKeys
pub mod Ranks
pub mod Sources
pub mod Tables
pub mod Winners
