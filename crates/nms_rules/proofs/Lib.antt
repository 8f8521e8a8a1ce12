pub mod ApartLemmas
pub mod CutoffLemmas
mod FindLemmas
pub mod GivenLemmas
pub mod HeldLemmas
pub mod LawfulLemmas
pub mod LegLemmas
pub mod MemberLemmas
mod NamedLemmas
mod NeverLemmas
mod NoneLemmas
pub mod OptimalLemmas
pub mod OrderLemmas
mod PaidLemmas
pub mod SignedLemmas
mod SoundLemmas
pub mod SumLemmas
pub mod TotalLemmas
pub mod Offered
