-- `append_legs`: the turns of its loop, by `records_more`.
use Rattle.std.proofs.Common.{arith}
use Rattle.std.proofs.lemmas.Grind.{common_steps}
use Rattle.nms_lines.specs.PlanText.{leg_record}
use Rattle.nms_lines.proofs.TextFacts.{records_more}
use Rattle.nms_lines.proofs.plan_writing.append_legs.Goals as goal

pub loop-leg-preserved : goal.loop-leg-preserved
loop-leg-preserved c =
    records_more (leg_record c.args.roster.now) c.args.legs.now c.loop-leg.leg-index c.leg-item.result c.args.out.now.items
    c.loop-leg.out.items c.append_leg.new.out.items c.loop-leg-test.true c.leg-item.is c.loop-leg.invariant c.in_ok-append_leg.ensures

-- ---- goals that `grind` closes; the search that is tried before it takes longer

pub returns : goal.returns
returns c = grind (arith, common_steps)
