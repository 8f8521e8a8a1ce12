pub use Rattle.nms_quote.specs.Roster as Roster
pub use Rattle.nms_fee_book.specs.Fees as Fees
pub mod FaultTable
pub mod Faults
pub mod Laws
pub mod Places
pub mod Settings
pub mod Setup
