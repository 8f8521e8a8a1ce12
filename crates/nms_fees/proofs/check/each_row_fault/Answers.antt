-- `each_row_fault`: its result, over all rows, by `fold-map`.
use Rattle.std.proofs.Common.{None, map, arith, sym, ap, ◌∙◌}
use Rattle.std.proofs.lemmas.Grind.{common_steps}
use Rattle.std.proofs.lemmas.List.{take_all}
use Rattle.std.proofs.lemmas.List.Folds.{fold-map}
use Rattle.std.specs.List.{fold}
use Rattle.toml.specs.View.{view}
use Rattle.nms_fees.specs.Faults.{lesser}
use Rattle.nms_fees.specs.Places.{row_fault}
use Rattle.nms_fees.proofs.check.each_row_fault.Goals as goal

pub returns : goal.returns
returns c =
    let whole = take_all c.loop-row.row-index c.args.rows.now (omega arith) in
    c.loop-row.invariant
    ∙ ap (fold (λ found row. lesser found (row_fault c.args.chosen c.args.section (view row))) None) whole
    ∙ sym (fold-map lesser (row_fault c.args.chosen c.args.section) None (map view c.args.rows.now)
    ∙ fold-map (λ found row. lesser found (row_fault c.args.chosen c.args.section row)) view None c.args.rows.now)

-- ---- goals that `grind` closes; the search that is tried before it takes longer

pub loop-row-preserved : goal.loop-row-preserved
loop-row-preserved c = grind (arith, common_steps)
