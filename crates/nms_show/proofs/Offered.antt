-- The lemmas of this crate that proofs of crates above it may cite. Its other lemmas are its own affair.
pub use Rattle.nms_show.proofs.PlainFacts.{no_part_added, nothing_added, plain_items, plain_members, whole_part}
pub use Rattle.nms_show.proofs.SafeFacts.{both_true}
pub use Rattle.nms_show.proofs.WriteFacts.{adds_no_part, adds_none, safe_part, safe_then, safe_writes, writes_err}
