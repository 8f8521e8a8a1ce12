pub mod BatchLemmas
pub mod Beginnings
mod HistoryLemmas
mod LawLemmas
pub mod PublishLemmas
mod RuleLemmas
pub mod Offered
