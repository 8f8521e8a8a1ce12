-- `tell_cuts`: the cuts are counted from 1.
use Rattle.std.proofs.Common.{◌≡◌}
use Rattle.nms_verdicts.proofs.cuts.tell_cuts.Given as goal

abbrev pub invariant-loop-cut : goal.invariant-loop-cut
invariant-loop-cut g l = l.number ≡ l.cut-index
