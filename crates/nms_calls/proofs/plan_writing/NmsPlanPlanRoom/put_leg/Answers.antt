-- NmsPlan::put_leg: the first free place has one more leg, by WrittenLemmas.
use Rattle.std.proofs.Common.{◌≡◌, ◌++◌, List, [], ◌∷◌, map, ap, sym, ◌∙◌, arith}
use Rattle.std.proofs.lemmas.List.{length-set}
use Rattle.nms_quote.specs.declared.plan.Leg.{Leg}
use Rattle.nms_calls.specs.PlanNumbers.{leg_numbers}
use Rattle.nms_calls.specs.PlanSaid.{leg_said, legs_of}
use Rattle.nms_calls.specs.declared.plan_numbers.NmsLeg.{NmsLeg}
use Rattle.nms_calls.proofs.WrittenLemmas.{one_more, room_left, still_written}
use Rattle.nms_calls.proofs.plan_writing.NmsPlanPlanRoom.put_leg.Goals as goal

pub returns-clause-filled : goal.returns-clause-filled
returns-clause-filled c =
    let out = c.args.self.now in
    let is = c.requires.filled in
    let written : NmsLeg = c.leg_numbers.result in
    let left = room_left leg_said out.leg out.legs is.legs is.leg_places c.requires.room in
    let own : leg_numbers (leg_said written) ≡ written =
    ap (λ (one : NmsLeg). leg_numbers (leg_said one)) c.leg_numbers.ensures ∙ sym c.leg_numbers.ensures in
    record {
      legs = omega (arith, left);
      cuts = is.cuts;
      leg_places = length-set out.leg out.legs written ∙ is.leg_places;
      cut_places = is.cut_places;
      leg = still_written (λ (one : NmsLeg). leg_numbers (leg_said one) ≡ one) out.leg out.legs written
          (omega (arith, left, is.leg_places)) is.leg own;
      cut = is.cut;
    }

pub returns-clause-legs : goal.returns-clause-legs
returns-clause-legs c =
    let out = c.args.self.now in
    let is = c.requires.filled in
    let before : List Leg = map leg_said (legs_of out) in
    let left = room_left leg_said out.leg out.legs is.legs is.leg_places c.requires.room in
    one_more leg_said out.leg out.legs c.leg_numbers.result (omega (arith, left, is.leg_places))
    ∙ ap (λ (one : Leg). before ++ one ∷ []) (ap leg_said c.leg_numbers.ensures)
