pub mod Blanks
pub mod Kinds
pub mod Ended
pub mod Lines
pub mod Marking
pub mod Nesting
