pub mod CommandLine
pub mod Faults
pub mod PlainCall
pub mod WordTable
