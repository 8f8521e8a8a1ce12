pub mod DayFacts
mod VersionFacts
mod PartLemmas
mod RowLemmas
mod SpellingLemmas
mod TextLemmas
mod TradeLemmas
mod DayLemmas
mod DrawnFacts
