-- `worst_of`: what holds in each turn of its loop.
use Rattle.std.proofs.Common.{ℕ, ◌≡◌, ◌<◌, false, slice_index_or}
use Rattle.nms_quote.specs.declared.plan.Leg.{Leg}
use Rattle.nms_rules.specs.Usable.{is_better}
use Rattle.nms_cert.proofs.board_confirming.worst_of.Given as goal

-- no leg so far is at a worse price
abbrev pub invariant-loop-leg : goal.invariant-loop-leg
invariant-loop-leg l = (k : ℕ) (d : Leg) → k < l.leg-index → is_better l.side l.worst (slice_index_or l.legs k d).price ≡ false
