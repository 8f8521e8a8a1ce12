pub use Rattle.nms_rules.specs.Accepted as Accepted
pub use Rattle.nms_rules.specs.Assignment as Assignment
pub use Rattle.nms_rules.specs.Faultless as Faultless
pub use Rattle.nms_rules.specs.Usable as Usable
pub mod Bounds
pub mod ByCost
pub mod Choice
pub mod Cutoffs
pub mod Filling
pub mod Order
pub mod Passed
pub mod Planned
pub mod Taken
