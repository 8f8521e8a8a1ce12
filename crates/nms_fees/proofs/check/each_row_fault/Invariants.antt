-- `each_row_fault`: the least fault of the rows so far.
use Rattle.std.proofs.Common.{◌≡◌, None, take}
use Rattle.std.specs.List.{fold}
use Rattle.toml.specs.View.{view}
use Rattle.nms_fees.specs.Faults.{lesser}
use Rattle.nms_fees.specs.Places.{row_fault}
use Rattle.nms_fees.proofs.check.each_row_fault.Given as goal

abbrev pub invariant-loop-row : goal.invariant-loop-row
invariant-loop-row l = l.least ≡ fold (λ found row. lesser found (row_fault l.chosen l.section (view row))) None (take l.row-index l.rows)
