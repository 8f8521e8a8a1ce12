pub use Rattle.nms_board.specs.Roster as Roster
pub use Rattle.nms_board.specs.Tape as Tape
pub use Rattle.nms_board.specs.Quotation as Quotation
pub use Rattle.nms_board.specs.Ranking as Ranking
pub use Rattle.nms_board.specs.View as View
pub mod Best
pub mod Market
pub mod Pairs
pub mod Walk
pub mod Laws
pub mod Examples
