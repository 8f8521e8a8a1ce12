pub use Rattle.nms_board.specs.View as View
pub use Rattle.nms_text.specs.Report as Report
pub use Rattle.nms_cert.specs.Doubts as Doubts
pub use Rattle.nms_files.specs.ChangeFile as ChangeFile
pub mod Audit
pub mod Faults
pub mod PlanFile
pub mod ReportFile
