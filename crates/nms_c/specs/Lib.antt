pub mod Behind
pub mod Held
pub mod Looked
pub mod TermsHeld
pub mod TermsLooked
