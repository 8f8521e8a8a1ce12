pub mod AnswerFacts
pub mod CloseFacts
pub mod CrewFacts
pub mod DeskFacts
pub mod FaultFacts
pub mod FedFacts
pub mod FeedFacts
pub mod HeldFacts
pub mod KeeperFacts
pub mod LeftFacts
pub mod NumberFacts
pub mod OwnFacts
pub mod PlaceFacts
pub mod PlanFacts
pub mod TapeFacts
mod FeedLemmas
mod HeadlineLemmas
mod LevelLemmas
mod RunOfLemmas
mod SequentialLemmas
