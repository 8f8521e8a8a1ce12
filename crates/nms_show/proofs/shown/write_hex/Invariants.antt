-- `write_hex`: the digits so far are printable.
use Rattle.nms_show.specs.Safe.{IsPrintable}
use Rattle.nms_show.specs.Written.{Adds}
use Rattle.nms_show.proofs.shown.write_hex.Given as goal

abbrev pub invariant-loop-place : goal.invariant-loop-place
invariant-loop-place g l = Adds IsPrintable (g.W.Write.contents l.fn.answers) (g.W.Write.contents l.answers)
