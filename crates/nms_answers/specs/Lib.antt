pub use Rattle.nms_scripts.specs.Script as Script
pub use Rattle.nms_versions.specs.Taped as Taped
pub use Rattle.nms_whole.specs.Lines as WholeLines
pub mod Epochs
pub mod Faults
pub mod Laws
pub mod Progress
pub mod Requests
pub mod Streams
pub mod Told
pub mod ServedEpoch
pub mod Merged
pub mod OneScript
pub mod Stretches
pub mod ServedRun
pub mod ServedExamples
