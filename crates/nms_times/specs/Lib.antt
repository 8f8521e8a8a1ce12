pub mod Clock
pub mod Times
pub mod TimesText
pub mod Faults
pub mod Laws
pub mod Examples
