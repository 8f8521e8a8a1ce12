pub use Rattle.nms_lines.specs.Records as Records
pub use Rattle.nms_lines.specs.Lines as Lines
pub use Rattle.nms_whole.specs.Lines as WholeLines
pub mod Laws
pub mod Streams
