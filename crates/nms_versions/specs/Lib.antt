pub use Rattle.logbook.specs.Pages as Pages
pub use Rattle.nms_quote.specs.Roster as Roster
pub use Rattle.nms_quote.specs.Tape as Tape
pub use Rattle.nms_board.specs.View as View
pub mod Fresh
pub mod History
pub mod Memory
pub mod Published
pub mod Publishing
pub mod Rule
pub mod Taped
