pub use Rattle.nms_scripts.specs.Script as Script
pub use Rattle.nms_flow.specs.Run as Run
pub mod Taken
pub mod Progress
