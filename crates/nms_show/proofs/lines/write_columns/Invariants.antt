-- `write_columns`: if the own texts are printable, what was written so far is safe.
use Rattle.std.proofs.Common.{All}
use Rattle.nms_show.specs.Safe.{IsPrintable, IsSafe, own_text}
use Rattle.nms_show.specs.Written.{Adds}
use Rattle.nms_show.proofs.lines.write_columns.Given as goal

abbrev pub invariant-loop-place : goal.invariant-loop-place
invariant-loop-place g l =
    All (λ column. IsPrintable (own_text column.item)) l.fn.columns
    → Adds IsSafe (g.W.Write.contents l.fn.answers) (g.W.Write.contents l.answers)
