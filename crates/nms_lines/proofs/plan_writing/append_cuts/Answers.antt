-- `append_cuts`: the turns of its loop, by `records_more`.
use Rattle.std.proofs.Common.{arith}
use Rattle.std.proofs.lemmas.Grind.{common_steps}
use Rattle.nms_lines.specs.PlanText.{cut_record}
use Rattle.nms_lines.proofs.TextFacts.{records_more}
use Rattle.nms_lines.proofs.plan_writing.append_cuts.Goals as goal

pub loop-cut-preserved : goal.loop-cut-preserved
loop-cut-preserved c =
    records_more cut_record c.args.cuts.now c.loop-cut.cut-index c.cut-item.result c.args.out.now.items
    c.loop-cut.out.items c.append_cut.new.out.items c.loop-cut-test.true c.cut-item.is c.loop-cut.invariant c.in_ok-append_cut.ensures

-- ---- goals that `grind` closes; the search that is tried before it takes longer

pub returns : goal.returns
returns c = grind (arith, common_steps)
