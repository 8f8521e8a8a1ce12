pub mod Offered
pub mod PlainFacts
pub mod SafeFacts
pub mod WriteFacts
