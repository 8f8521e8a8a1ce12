pub use Rattle.nms_lines.specs.Records as Records
pub use Rattle.nms_lines.specs.Lines as Lines
pub mod ChangeFile
pub mod Faults
pub mod LineFile
pub mod OrderFile
pub mod OrderWords
