-- `write_table`: what was written so far is safe, and the numbers so far have that sum.
use Rattle.std.proofs.Common.{◌≡◌, take}
use Rattle.std.specs.List.{sum_by}
use Rattle.nms_show.specs.Safe.{IsSafe}
use Rattle.nms_show.specs.Written.{Adds}
use Rattle.nms_compare.proofs.counts.write_table.Given as goal

abbrev pub invariant-loop-row : goal.invariant-loop-row
invariant-loop-row g l = record {
  safe : Adds IsSafe (g.W.Write.contents l.fn.out) (g.W.Write.contents l.out);
  sum : l.rows ≡ sum_by (λ row. row.0) (take l.row-index l.fn.table);
}
