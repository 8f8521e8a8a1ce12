-- NmsPlan::put_cut: the first free place has one more cut, by WrittenLemmas.
use Rattle.std.proofs.Common.{◌≡◌, ◌++◌, List, [], ◌∷◌, map, ap, sym, ◌∙◌, arith}
use Rattle.std.proofs.lemmas.List.{length-set}
use Rattle.nms_quote.specs.declared.certificate.Cut.{Cut}
use Rattle.nms_calls.specs.PlanNumbers.{cut_numbers}
use Rattle.nms_calls.specs.PlanSaid.{cut_said, cuts_of}
use Rattle.nms_calls.specs.declared.plan_numbers.NmsCut.{NmsCut}
use Rattle.nms_calls.proofs.WrittenLemmas.{cut_back, one_more, room_left, still_written}
use Rattle.nms_calls.proofs.plan_writing.NmsPlanPlanRoom.put_cut.Goals as goal

pub returns-clause-filled : goal.returns-clause-filled
returns-clause-filled c =
    let out = c.args.self.now in
    let is = c.requires.filled in
    let written : NmsCut = c.cut_numbers.result in
    let left = room_left cut_said out.cut out.cuts is.cuts is.cut_places c.requires.room in
    let own : cut_numbers (cut_said written) ≡ written =
    ap (λ (one : NmsCut). cut_numbers (cut_said one)) c.cut_numbers.ensures ∙ ap cut_numbers (cut_back c.args.cut) ∙ sym c.cut_numbers.ensures in
    record {
      cuts = omega (arith, left);
      legs = is.legs;
      cut_places = length-set out.cut out.cuts written ∙ is.cut_places;
      leg_places = is.leg_places;
      cut = still_written (λ (one : NmsCut). cut_numbers (cut_said one) ≡ one) out.cut out.cuts written
          (omega (arith, left, is.cut_places)) is.cut own;
      leg = is.leg;
    }

pub returns-clause-cuts : goal.returns-clause-cuts
returns-clause-cuts c =
    let out = c.args.self.now in
    let is = c.requires.filled in
    let before : List Cut = map cut_said (cuts_of out) in
    let left = room_left cut_said out.cut out.cuts is.cuts is.cut_places c.requires.room in
    one_more cut_said out.cut out.cuts c.cut_numbers.result (omega (arith, left, is.cut_places))
    ∙ ap (λ (one : Cut). before ++ one ∷ []) (ap cut_said c.cut_numbers.ensures ∙ cut_back c.args.cut)
