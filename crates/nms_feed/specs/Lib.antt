pub use Rattle.nms_quote.specs.Merge as Merge
pub mod Known
pub mod Lane
pub mod Packed
pub mod Rule
