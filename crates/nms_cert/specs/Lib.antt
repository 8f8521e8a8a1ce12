pub use Rattle.nms_rules.specs.Accepted as Accepted
pub use Rattle.nms_rules.specs.Assignment as Assignment
pub use Rattle.nms_rules.specs.Faultless as Faultless
pub use Rattle.nms_rules.specs.Usable as Usable
pub mod Codes
pub mod Doubts
pub mod Quick
pub mod Walk
