-- `append_table`: the columns so far and those that are left are those of the table.
use Rattle.std.proofs.Common.{◌≡◌, ◌++◌, drop, length, map, codes}
use Rattle.std.specs.Fmt.{decimal}
use Rattle.nms_drawing.specs.Spelling.{columns_from, table_text}
use Rattle.nms_drawing.proofs.spelling.append_table.Given as goal

abbrev pub invariant-loop-place : goal.invariant-loop-place
invariant-loop-place g l =
    l.out.items ++ columns_from l.place (map (λ column. column.now) (drop l.place l.columns)) l.rows
    ≡ l.initial.out.items ++ columns_from 0 (map (λ column. column.now) l.columns) l.rows
