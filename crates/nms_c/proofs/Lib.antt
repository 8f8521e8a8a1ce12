pub mod Values
pub mod LeaseFields
pub mod LookValues
pub mod TermsLookValues
pub mod TermsValues
