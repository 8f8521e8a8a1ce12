mod ListLemmas
mod PairLemmas
mod WalkLemmas
pub mod RankingLemmas
pub mod Offered
