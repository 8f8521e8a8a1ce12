-- `some_is_passed_over`: what holds in each turn of its loop.
use Rattle.std.proofs.Common.{ℕ, ◌≡◌, ◌<◌, false, slice_index_or}
use Rattle.nms_rules.specs.Usable.{Usable}
use Rattle.nms_cert.specs.Quick.{is_passed_over}
use Rattle.nms_cert.proofs.board_confirming.some_is_passed_over.Given as goal

-- no row so far is passed over
abbrev pub invariant-loop-row : goal.invariant-loop-row
invariant-loop-row l = (k : ℕ) (d : Usable) → k < l.row-index → is_passed_over l.side l.legs (slice_index_or l.rows k d) ≡ false
