-- `legs_are_in_range`: all that it promises and the turns of its loop, by `all_more`.
use Rattle.std.proofs.Common.{◌≤◌, arith, subst}
use Rattle.std.specs.Prelude.{All}
use Rattle.std.proofs.lemmas.List.{take_all}
use Rattle.nms_units.specs.declared.TheConstants.{MOST_SHARES}
use Rattle.nms_quote.specs.declared.plan.Leg.{Leg}
use Rattle.nms_lines.specs.PlanLaws.{IsPriceInRange}
use Rattle.nms_file_answers.proofs.FitFacts.{all_more}
use Rattle.nms_file_answers.proofs.laws.legs_are_in_range.Goals as goal

InRange : Leg → Type 0
InRange leg = IsPriceInRange leg.price × (leg.shares ≤ MOST_SHARES)

pub loop-leg-preserved : goal.loop-leg-preserved
unfolding InRange
loop-leg-preserved c =
    all_more InRange c.args.legs.now c.loop-leg.leg-index c.leg-item.result c.loop-leg-test.true c.leg-item.is c.loop-leg.invariant (
      (omega (arith, c.get.ensures.low, c.get.ensures.number), omega (arith, c.get.ensures.high, c.get.ensures.number)),
      omega (arith, c.get-in-loop-leg.ensures.high, c.get-in-loop-leg.ensures.number),
    )

pub returns : goal.returns
unfolding InRange
returns c = subst (All InRange) (take_all c.loop-leg.leg-index c.args.legs.now (omega (arith, c.loop-leg-test.false))) c.loop-leg.invariant
