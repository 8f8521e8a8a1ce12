-- `legs_cost_within_bounds`: the turns of its loop, by `AreWithin`, `within-none` and `within-push`.
use Rattle.std.proofs.Common.{◌++◌, ◌∷◌, [], List, take, sym, ap, ◌∙◌, subst}
use Rattle.std.specs.Prelude.{◌≤ℤ◌, ℤ, pos, negsuc}
use Rattle.std.proofs.lemmas.List.{take_more}
use Rattle.nms_quote.specs.declared.plan.Leg.{Leg}
use Rattle.nms_sweep.proofs.BoundLemmas.{AreWithin, within-none, within-push}
use Rattle.nms_sweep.proofs.laws.legs_cost_within_bounds.Goals as goal

pub loop-leg-init : goal.loop-leg-init
loop-leg-init c = within-none c.args.fees.now c.args.side

pub loop-leg-preserved : goal.loop-leg-preserved
loop-leg-preserved c =
    let before : List Leg = take c.loop-leg.leg-index c.args.legs.now in
    let more = take_more c.args.legs.now c.loop-leg.leg-index c.leg-item.result c.loop-leg-test.true
    ∙ ap (λ (leg : Leg). before ++ leg ∷ []) (sym c.leg-item.is) in
    subst (AreWithin c.args.fees.now c.args.side) (sym more)
    (within-push c.args.fees.now c.args.side before c.leg-item.result c.loop-leg.invariant
    (subst (λ (cost : ℤ). negsuc 10000000009999999 ≤ℤ cost) c.unit_cost.ensures.cost c.unit_cost.ensures.low)
    (subst (λ (cost : ℤ). cost ≤ℤ pos 10000000010000000) c.unit_cost.ensures.cost c.unit_cost.ensures.high))
