pub use Rattle.nms_quote.specs.Tape as Tape
pub use Rattle.nms_board.specs.View as View
pub use Rattle.nms_rules.specs.Breach as Breach
pub use Rattle.nms_rules.specs.Cutoff as Cutoff
pub use Rattle.nms_cert.specs.Doubts as Doubts
pub use Rattle.nms_lines.specs.PlanReading as PlanReading
pub use Rattle.nms_files.specs.ChangeFile as ChangeFile
pub use Rattle.nms_file_answers.specs.Audit as Audit
pub mod Begun
pub mod BreachPlaces
pub mod Checked
pub mod DoubtPlaces
pub mod Explained
pub mod Faults
pub mod LegPlaces
pub mod Pieces
pub mod Verdicts
pub mod Listed
