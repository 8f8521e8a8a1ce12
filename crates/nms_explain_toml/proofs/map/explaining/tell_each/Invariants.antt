-- `tell_each`: what was written so far is safe.
use Rattle.nms_show.specs.Safe.{IsSafe}
use Rattle.nms_show.specs.Written.{Adds}
use Rattle.nms_explain_toml.proofs.map.explaining.tell_each.Given as goal

abbrev pub invariant-loop-finding : goal.invariant-loop-finding
invariant-loop-finding g l = Adds IsSafe (g.W.Write.contents l.fn.answers) (g.W.Write.contents l.answers)
