pub mod BoardFacts
pub mod HeldFacts
pub mod NextFacts
pub mod RowFacts
pub mod StayFacts
pub mod UpToFacts
pub mod WholeFacts
pub mod RollingFacts
