pub use Rattle.nms_lines.specs.Records as Records
pub use Rattle.nms_lines.specs.Lines as Lines
pub use Rattle.nms_nbbo.specs.Best as Best
pub use Rattle.nms_rules.specs.Accepted as Accepted
pub use Rattle.nms_rules.specs.Assignment as Assignment
pub use Rattle.nms_rules.specs.Laws as PlanLaws
pub use Rattle.nms_flow.specs.Laws as RunLaws
pub use Rattle.nms_flow.specs.Run as Run
pub use Rattle.nms_versions.specs.Taped as Taped
pub mod Answering
pub mod Closed
pub mod Crew
pub mod Faults
pub mod Headline
pub mod Held
pub mod Keeping
pub mod Lists
pub mod Living
pub mod Planning
pub mod Reading
pub mod Rows
pub mod RunOf
