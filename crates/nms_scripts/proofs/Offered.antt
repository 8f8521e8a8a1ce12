-- The lemmas of this crate that proofs of crates above it may cite. Its other lemmas are only for this crate.
pub use Rattle.nms_scripts.proofs.ProgressFacts.{answers-push}
