-- `is_out_of_order`: what holds in each turn of its loop.
use Rattle.std.proofs.Common.{◌≡◌, length}
use Rattle.nms_cert.specs.Doubts.{is_out_of_order}
use Rattle.nms_cert.proofs.cuts.is_out_of_order.Given as goal

-- no cut so far is at a price that is not better than one after it
abbrev pub invariant-loop-cut : goal.invariant-loop-cut
invariant-loop-cut l = is_out_of_order l.side l.fn.cuts ≡ is_out_of_order l.side l.later

abbrev pub decreases-loop-cut : goal.decreases-loop-cut
decreases-loop-cut l = length l.later
