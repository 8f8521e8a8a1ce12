pub use Rattle.nms_units.specs.Lot as Lot
pub mod Content
pub mod Merge
pub mod Tape
pub mod Roster
pub mod Names
pub mod Members
pub mod Terms
