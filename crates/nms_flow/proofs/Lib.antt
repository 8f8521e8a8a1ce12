mod LawLemmas
pub mod ListFacts
pub mod RunLemmas
mod StepLemmas
mod TakeLemmas
pub mod Offered
