pub use Rattle.nms_lines.specs.Records as Records
pub use Rattle.nms_lines.specs.Lines as Lines
pub use Rattle.nms_board.specs.View as View
pub use Rattle.nms_nbbo.specs.Best as Best
pub use Rattle.nms_nbbo.specs.Market as Market
pub use Rattle.nms_rules.specs.Through as Through
pub use Rattle.nms_flow.specs.Run as Run
pub use Rattle.nms_text.specs.Answers as Answers
pub mod Progress
pub mod Script
pub mod Told
