-- `explain_records`: what was written so far is safe.
use Rattle.nms_show.specs.Safe.{IsSafe}
use Rattle.nms_show.specs.Written.{Adds}
use Rattle.nms_explain.proofs.executions.explain_records.Given as goal

abbrev pub invariant-loop-turn : goal.invariant-loop-turn
invariant-loop-turn g l = Adds IsSafe (g.W.Write.contents l.fn.answers) (g.W.Write.contents l.answers)
