pub mod ChangeRoundTrip
pub mod TextParts
