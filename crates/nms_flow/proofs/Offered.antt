-- The lemmas of this crate that proofs of crates above it may cite. Its other lemmas are only for this crate.
pub use Rattle.nms_flow.proofs.ListFacts.{last_or-append}
pub use Rattle.nms_flow.proofs.RunLemmas.{filter_map-push, goes_on, is_run-push, standing_after-push}
