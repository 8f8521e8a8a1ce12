pub mod Going
pub mod Held
pub mod Lines
