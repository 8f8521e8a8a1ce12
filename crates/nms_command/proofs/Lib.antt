mod CheckFacts
mod FailedFacts
pub mod Offered
mod PartFacts
pub mod StatusFacts
