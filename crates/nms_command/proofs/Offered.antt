-- The lemmas of this crate that proofs of the program may cite. Its other lemmas are its own affair.
pub use Rattle.nms_command.proofs.StatusFacts.{IsFaultStatus, done_by, fault_status, five, judged_by, seven, six, text_status}
pub use Rattle.nms_command.proofs.FailedFacts.{writing_more}
