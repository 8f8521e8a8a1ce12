pub use Rattle.nms_quote.specs.Terms as Terms
pub use Rattle.nms_board.specs.Ranking as Ranking
pub use Rattle.nms_board.specs.View as View
pub use Rattle.nms_fee_book.specs.Fees as Fees
pub mod Accepted
pub mod Assignment
pub mod Breach
pub mod Codes
pub mod Cutoff
pub mod Faultless
pub mod First
pub mod Laws
pub mod Through
pub mod Usable
