-- `put_plan`: each number is the plan's, and the halves of its cost say it.
use Rattle.std.proofs.Common.{◌∙◌, ℤ, List, length, refl, ap, subst, rules, w64}
use mir.Val.{SFits}
use Rattle.std.proofs.lemmas.Int.{to_z-of_z}
use Rattle.nms_quote.specs.declared.certificate.Cut.{Cut}
use Rattle.nms_quote.specs.declared.plan.Leg.{Leg}
use Rattle.nms_calls.specs.PlanNumbers.{AreCuts, AreLegs, cost_said}
use Rattle.nms_calls.proofs.PlaceLemmas.{halves-said}
use Rattle.nms_calls.proofs.plan_writing.put_plan.Goals as goal

pub returns : goal.returns
returns c =
    let high : ℤ = c.cost_high-out.result in
    let low = c.cost_low-out.result in
    let fits : SFits w64 high = search rules in
    let legs : List Leg → Type 0 = AreLegs c.put_legs.new.places in
    let cuts : List Cut → Type 0 = AreCuts c.put_cuts.new.places in
    record {
      version = refl;
      cost = ap (λ (read : ℤ). cost_said read low) (to_z-of_z w64 high fits)
          ∙ halves-said c.args.plan.now.cost high low c.cost_high-out.ensures c.cost_low-out.ensures;
      filled = refl;
      legs = ap length c.as_slice-legs.ensures.value;
      cuts = ap length c.as_slice-cuts.ensures.value;
      leg = subst legs c.as_slice-legs.ensures.value c.put_legs.ensures;
      cut = subst cuts c.as_slice-cuts.ensures.value c.put_cuts.ensures;
    }
