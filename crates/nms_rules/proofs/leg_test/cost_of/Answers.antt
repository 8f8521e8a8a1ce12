-- `cost_of`: the turns of its loop, by `cost_of-none` and `cost_of-push`.
use Rattle.std.proofs.Common.{◌++◌, ◌∷◌, [], List, take, arith, ap, sym, ◌∙◌}
use Rattle.std.proofs.lemmas.Grind.{common_steps}
use Rattle.std.proofs.lemmas.Int.{ints}
use Rattle.std.proofs.lemmas.List.{take_more}
use Rattle.nms_quote.specs.declared.plan.Leg.{Leg}
use Rattle.nms_rules.specs.Faultless.{cost_of}
use Rattle.nms_rules.proofs.LegLemmas.{cost_of-none, cost_of-push}
use Rattle.nms_rules.proofs.leg_test.cost_of.Goals as goal

pub loop-leg-init : goal.loop-leg-init
loop-leg-init c = record {
  cost = c.new-cost.ensures ∙ sym (cost_of-none c.args.fees.now c.args.side);
  low = omega (arith, ints, c.new-cost.ensures);
  high = omega (arith, ints, c.new-cost.ensures);
}

pub loop-leg-preserved : goal.loop-leg-preserved
loop-leg-preserved c =
    let more = take_more c.args.legs.now c.loop-leg.leg-index c.leg-item.result c.loop-leg-test.true in
    let before : List Leg = take c.loop-leg.leg-index c.args.legs.now in
    let pushed = cost_of-push c.args.fees.now c.args.side before c.leg-item.result in
    let whole = ap (cost_of c.args.fees.now c.args.side) (more ∙ ap (λ (l : Leg). before ++ l ∷ []) (sym c.leg-item.is)) in
    record {
      cost = omega (arith, ints, c.plus-cost.ensures, c.leg_cost.ensures.cost, c.loop-leg.invariant.cost, pushed, whole);
      low = omega (arith, ints, c.plus-cost.ensures, c.leg_cost.ensures.low, c.loop-leg.invariant.low);
      high = omega (arith, ints, c.plus-cost.ensures, c.leg_cost.ensures.high, c.loop-leg.invariant.high);
    }

-- ---- goals that `grind` closes; the search that is tried before it takes longer

pub returns : goal.returns
returns c = grind (arith, common_steps)
