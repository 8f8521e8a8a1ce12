pub use Rattle.nms_quote.specs.Tape as Tape
pub use Rattle.nms_board.specs.View as View
pub use Rattle.nms_rules.specs.Through as Through
pub mod Answers
pub mod Around
pub mod Bests
pub mod Causes
pub mod Columns
pub mod Counts
pub mod Day
pub mod Examples
pub mod Faults
pub mod FileFaults
pub mod Files
pub mod FinePrice
pub mod Found
pub mod Judged
pub mod Lines
pub mod Parts
pub mod Quality
pub mod Quoted
pub mod Reading
pub mod Stretch
pub mod Sums
pub mod Track
pub mod Turns
pub mod When
