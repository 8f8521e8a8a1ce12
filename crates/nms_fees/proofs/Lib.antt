mod Agreement
mod FaultsFound
mod NameLemmas
pub mod Offered
mod SoundLemmas
pub mod TableLemmas
mod TextFaults
