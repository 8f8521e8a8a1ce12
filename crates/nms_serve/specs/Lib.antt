pub mod CommandLine
pub mod Faults
pub mod LeftRuns
pub mod Options
pub mod Values
