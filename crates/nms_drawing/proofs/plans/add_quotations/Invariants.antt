-- `add_quotations`: the quotations so far and those that are left are all of them.
use Rattle.std.proofs.Common.{◌≡◌, ◌+◌, ◌++◌, drop}
use Rattle.nms_drawing.specs.Plans.{quotation_rows}
use Rattle.nms_drawing.proofs.plans.add_quotations.Given as goal

abbrev pub invariant-loop-quotation : goal.invariant-loop-quotation
invariant-loop-quotation l = record {
  note : l.note ≡ 3 + l.quotation-index;
  rows : l.rows.items ++ quotation_rows l.note (drop l.quotation-index l.quotations) ≡ quotation_rows 3 l.quotations;
}
