-- `append_steps`: the differences so far and those of what is left are those of the column.
use Rattle.std.proofs.Common.{◌≡◌, ◌++◌, drop}
use Rattle.nms_drawing.specs.Spelling.{column_at, steps_text}
use Rattle.nms_drawing.proofs.spelling.append_steps.Given as goal

abbrev pub invariant-loop-row : goal.invariant-loop-row
invariant-loop-row g l =
    l.out.items ++ steps_text l.unit l.was (column_at l.place (drop l.row-index l.rows))
    ≡ l.fn.out.items ++ steps_text l.unit 0 (column_at l.place l.rows)
