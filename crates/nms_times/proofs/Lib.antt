pub mod ClockFacts
pub mod TextFacts
pub mod VersionFacts
