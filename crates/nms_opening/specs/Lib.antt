pub use Rattle.nms_quote.specs.Content as Content
pub use Rattle.nms_quote.specs.Tape as Tape
pub use Rattle.nms_board.specs.Cells as Cells
pub use Rattle.nms_board.specs.Ranking as Ranking
pub mod Alike
pub mod Examples
pub mod Next
pub mod Opening
pub mod Rolling
