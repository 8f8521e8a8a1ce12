-- `write_items`: if the own texts are printable, what was written so far is safe.
use Rattle.std.proofs.Common.{All}
use Rattle.nms_show.specs.Safe.{IsPrintable, IsSafe, own_text}
use Rattle.nms_show.specs.Written.{Adds}
use Rattle.nms_show.proofs.lines.write_items.Given as goal

abbrev pub invariant-loop-item : goal.invariant-loop-item
invariant-loop-item g l =
    All (λ item. IsPrintable (own_text item)) l.fn.items → Adds IsSafe (g.W.Write.contents l.fn.answers) (g.W.Write.contents l.answers)
