mod ProgressFacts
mod ScriptFacts
mod ThroughFacts
mod PlanFacts
pub mod Offered
