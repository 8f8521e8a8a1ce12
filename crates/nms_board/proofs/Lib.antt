mod BestLemmas
pub mod BoardLemmas
pub mod CarriedLemmas
pub mod GivenLemmas
pub mod GivenOnce
pub mod GivenOrders
pub mod GivenRanks
pub mod GivenWhole
pub mod HistoryLemmas
pub mod KeptLemmas
pub mod LawLemmas
pub mod ListLemmas
mod RowLemmas
pub mod OrderLemmas
pub mod PartLemmas
pub mod PassLemmas
pub mod RankLemmas
pub mod Offered
