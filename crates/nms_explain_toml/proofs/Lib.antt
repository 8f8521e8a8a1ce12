pub mod BlankFacts
pub mod MarkFacts
pub mod NestFacts
pub mod ValueFacts
mod Worked
