-- `write_marks`: what was written so far is safe.
use Rattle.nms_show.specs.Safe.{IsSafe}
use Rattle.nms_show.specs.Written.{Adds}
use Rattle.nms_show.proofs.under.write_marks.Given as goal

abbrev pub invariant-loop : goal.invariant-loop
invariant-loop g l = Adds IsSafe (g.W.Write.contents l.fn.answers) (g.W.Write.contents l.answers)
