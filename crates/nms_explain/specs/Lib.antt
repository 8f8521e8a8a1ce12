pub use Rattle.nms_lines.specs.Layout as Layout
pub mod Counted
pub mod ExecutionCodes
pub mod Faults
pub mod FieldNames
pub mod Names
pub mod PlanExamples
pub mod PlanOrder
pub mod Planned
pub mod Source
