-- `reduced_rows`: the turns of its loop, and clause `rows` by `rows_left`.
use Rattle.std.proofs.Common.{arith}
use Rattle.std.proofs.lemmas.Grind.{common_steps}
use Rattle.std.proofs.lemmas.List.{take_all}
use Rattle.std.proofs.lemmas.List.Elements.{filter_map-append}
use Rattle.nms_calls.proofs.ReducedLemmas.{rows_left}
use Rattle.nms_calls.proofs.view_reducing.reduced_rows.Goals as goal

pub loop-row-preserved : goal.loop-row-preserved
loop-row-preserved c = grind (arith, common_steps, filter_map-append)

pub returns-clause-rows : goal.returns-clause-rows
returns-clause-rows c =
    rw (c.loop-row.invariant.items, take_all c.loop-row.row-index c.args.rows.now c.loop-row-test.false)
    (rows_left c.args.most.now c.args.rows.now c.requires.rows)
