-- The lemmas of this crate that proofs of crates above it may cite. Its other lemmas are its own affair.
pub use Rattle.nms_lines.proofs.WrittenFacts.{appended, part_more, whole_kept}
pub use Rattle.nms_lines.proofs.TextFacts.{join-append, records_more}
pub use Rattle.nms_lines.proofs.ReadFacts.{no_records}
pub use Rattle.nms_lines.proofs.OneText.{ArePlain, AreSame, IsNamed, IsSame, each_same, plain_decimal, plain_nil, plain_part, plain_price}
pub use Rattle.nms_lines.proofs.OneText.{plain_symbol, row_as_it_is, word}
pub use Rattle.nms_lines.proofs.PlanRoundTrip.{AreWhole, Reads, price_back, reached, shares_back, some_back}
