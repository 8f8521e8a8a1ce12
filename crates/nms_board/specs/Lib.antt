pub use Rattle.nms_quote.specs.Content as Content
pub use Rattle.nms_quote.specs.Lot as Lot
pub use Rattle.nms_quote.specs.Roster as Roster
pub use Rattle.nms_quote.specs.Tape as Tape
pub mod Bests
pub mod Carried
pub mod Cells
pub mod Examples
pub mod Given
pub mod History
pub mod Holding
pub mod Kept
pub mod Laws
pub mod Quotation
pub mod Ranking
pub mod Ranks
pub mod Shown
pub mod View
