-- `write_parts`: what was written so far is safe.
use Rattle.nms_show.specs.Safe.{IsSafe}
use Rattle.nms_show.specs.Written.{Adds}
use Rattle.nms_drawing.proofs.boards_lines.write_parts.Given as goal

abbrev pub invariant-loop-place : goal.invariant-loop-place
invariant-loop-place g l = Adds IsSafe (g.W.Write.contents l.fn.answers) (g.W.Write.contents l.answers)
