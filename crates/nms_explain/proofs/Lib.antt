pub mod CountFacts
mod NameFacts
mod NameListFacts
mod OrderFacts
pub mod PlanFacts
pub mod ReadingFacts
mod WalkFacts
