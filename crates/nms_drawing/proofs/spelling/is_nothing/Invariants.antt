-- `is_nothing`: the column is 0 if what is left of it is.
use Rattle.std.proofs.Common.{◌≡◌, ◌==◌, drop}
use Rattle.std.specs.List.{list_all}
use Rattle.nms_drawing.specs.Spelling.{column_at}
use Rattle.nms_drawing.proofs.spelling.is_nothing.Given as goal

abbrev pub invariant-loop-row : goal.invariant-loop-row
invariant-loop-row g l = list_all (λ value. value == 0) (column_at l.place (drop l.row-index l.rows))
    ≡ list_all (λ value. value == 0) (column_at l.place l.rows)
