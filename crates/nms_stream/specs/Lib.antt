pub use Rattle.nms_quote.specs.Tape as Tape
pub use Rattle.nms_board.specs.View as View
pub use Rattle.nms_board.specs.Ranking as Ranking
pub use Rattle.nms_nbbo.specs.Best as Best
pub use Rattle.nms_nbbo.specs.Market as Market
pub use Rattle.nms_text.specs.Answers as Answers
pub use Rattle.nms_files.specs.ChangeFile as ChangeFile
pub mod Faults
pub mod Following
pub mod Laws
pub mod Pieces
pub mod Quoted
pub mod Replays
pub mod Stream
pub mod StreamFile
pub mod Tapes
