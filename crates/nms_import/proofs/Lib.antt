mod ClockFacts
mod KeptFacts
mod RowFacts
mod TextFacts
mod TimeFacts
mod ShowFacts
mod SideFacts
pub mod NameFacts
