pub use Rattle.nms_quote.specs.Tape as Tape
pub use Rattle.nms_board.specs.View as View
pub use Rattle.nms_opening.specs.Opening as Opening
pub use Rattle.nms_text.specs.Report as Report
pub use Rattle.nms_files.specs.ChangeFile as ChangeFile
pub use Rattle.nms_stream.specs.StreamFile as StreamFile
pub mod Faults
pub mod Versions
pub mod Streamed
pub mod Days
pub mod PageFaults
pub mod Pages
pub mod Spelling
pub mod Texts
pub mod Data
pub mod PageData
pub mod Rows
pub mod Trades
pub mod Plans
pub mod Page
pub mod Drawn
