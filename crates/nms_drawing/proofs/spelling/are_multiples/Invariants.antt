-- `are_multiples`: all values are multiples if those that are left are.
use Rattle.std.proofs.Common.{◌≡◌, drop}
use Rattle.std.specs.List.{list_all}
use Rattle.nms_drawing.specs.Spelling.{column_at, is_multiple}
use Rattle.nms_drawing.proofs.spelling.are_multiples.Given as goal

abbrev pub invariant-loop-row : goal.invariant-loop-row
invariant-loop-row g l = list_all (is_multiple l.unit) (column_at l.place (drop l.row-index l.rows))
    ≡ list_all (is_multiple l.unit) (column_at l.place l.rows)
