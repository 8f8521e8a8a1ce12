-- `write_side`: the turns of its loop, by `one_more_written`.
use Rattle.std.proofs.Common.{arith}
use Rattle.std.proofs.lemmas.Grind.{common_steps}
use Rattle.nms_text.specs.Report.{row_line}
use Rattle.nms_text.proofs.ColumnFacts.{one_more_written}
use Rattle.nms_text.proofs.report_text.write_side.Goals as goal

pub loop-row-preserved : goal.loop-row-preserved
loop-row-preserved g c =
    one_more_written (row_line c.args.roster.now c.args.side c.args.best.now) _ _ _ c.rows-row-items.result.now c.loop-row.row-index
    c.row-item.result
    c.loop-row-test.true c.row-item.is c.loop-row.invariant c.in_ok-write_row.ensures

-- ---- goals that `grind` closes; the search that is tried before it takes longer

pub returns : goal.returns
returns g c = grind (arith, common_steps)

pub write_row-requires : goal.write_row-requires
write_row-requires g c = grind (arith, common_steps)

pub loop-row-init : goal.loop-row-init
loop-row-init g c = grind (arith, common_steps)
