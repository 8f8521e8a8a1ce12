-- put_outcome: the places say what was written, by WrittenLemmas, and the halves of the cost say it.
use Rattle.std.proofs.Common.{◌∙◌, ℤ, refl, ap, rules, w64}
use mir.Val.{SFits}
use Rattle.std.proofs.lemmas.Int.{to_z-of_z}
use Rattle.nms_calls.specs.PlanNumbers.{cost_said, cut_at, cut_numbers, leg_at, leg_numbers, no_cut, no_leg}
use Rattle.nms_calls.specs.PlanSaid.{cut_said, leg_said}
use Rattle.nms_calls.proofs.PlaceLemmas.{halves-said}
use Rattle.nms_calls.proofs.WrittenLemmas.{all_places, all_said}
use Rattle.nms_calls.proofs.plan_writing.put_outcome.Goals as goal

pub returns : goal.returns
returns c = λ order.
    let out = c.args.out.now in
    let is = c.requires in
    let high : ℤ = c.cost_high-out.result in
    let low = c.cost_low-out.result in
    let fits : SFits w64 high = search rules in
    record {
      version = refl;
      cost = ap (λ (read : ℤ). cost_said read low) (to_z-of_z w64 high fits)
          ∙ halves-said c.args.outcome.cost high low c.cost_high-out.ensures c.cost_low-out.ensures;
      filled = refl;
      legs = all_said leg_said out.leg out.legs is.legs is.leg_places;
      cuts = all_said cut_said out.cut out.cuts is.cuts is.cut_places;
      leg = all_places leg_said leg_numbers no_leg leg_at (λ _. refl) refl out.legs out.leg c.clear_legs.new.places is.legs is.leg_places is.leg
          c.clear_legs.ensures.before c.clear_legs.ensures.behind;
      cut = all_places cut_said cut_numbers no_cut cut_at (λ _. refl) refl out.cuts out.cut c.clear_cuts.new.places is.cuts is.cut_places is.cut
          c.clear_cuts.ensures.before c.clear_cuts.ensures.behind;
    }
