pub mod MemberLemmas
pub mod MergeLemmas
mod TableLemmas
mod WordLemmas
pub mod Offered
