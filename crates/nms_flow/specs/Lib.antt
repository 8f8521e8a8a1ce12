pub use Rattle.nms_quote.specs.Merge as Merge
pub use Rattle.nms_quote.specs.Roster as Roster
pub use Rattle.nms_quote.specs.Tape as Tape
pub use Rattle.nms_board.specs.View as View
pub use Rattle.nms_nbbo.specs.Best as Best
pub mod Faults
pub mod Flow
pub mod Laws
pub mod Run
pub mod Shape
pub mod Takes
