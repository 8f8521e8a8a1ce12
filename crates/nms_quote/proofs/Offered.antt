-- The lemmas of this crate that proofs of crates above it may cite. Its other lemmas are its own affair.
pub use Rattle.nms_quote.proofs.MemberLemmas.{digit_told, has-nobody, has-with}
pub use Rattle.nms_quote.proofs.MergeLemmas.{feeds-at_place, of_feed-mine, of_feed-other, of_feed-total, same_feed-one, same_feed-self}
pub use Rattle.nms_quote.proofs.MergeLemmas.{total}
