mod Texts
mod ColumnFacts
pub mod PairFacts
mod ReportFacts
pub mod Offered
