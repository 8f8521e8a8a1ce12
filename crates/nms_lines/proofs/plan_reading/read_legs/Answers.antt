-- `read_legs`: clauses `refused` and `read` and the turns of its loop, by `legs_end`, `legs_many`, `legs_more`,
-- `legs_out` and `legs_over`.
use Rattle.std.proofs.Common.{rules, arith, ◌≡◌, ◌<◌, ◌≤◌, ◌++◌, ◌∷◌, ◌∙◌, [], Err, refl, sym, ap, inl, inr, length}
use Rattle.std.specs.Result.{result_ok}
use Rattle.std.proofs.lemmas.Grind.{common_steps}
use Rattle.std.proofs.lemmas.List.{length-append}
use Rattle.std.proofs.lemmas.List.Elements.{All-nil, All-push}
use Rattle.nms_quote.specs.Roster.{Listing}
use Rattle.nms_quote.specs.declared.plan.Leg.{Leg}
use Rattle.csv.specs.Records.{fields_of}
use Rattle.nms_lines.specs.declared.plan_text_fault.PlanTextFault.TheVariants as fault
use Rattle.nms_lines.proofs.PlanFacts.{legs_end, legs_many, legs_more, legs_out, legs_over}
use Rattle.nms_lines.proofs.plan_reading.read_legs.Goals as goal

-- a leg's participant is on the roster
abbrev IsThere : Listing → Leg → Type 0
IsThere roster leg = leg.part < length roster.parts

pub loop-init : goal.loop-init
loop-init g c = record {
  counted = rw c.new_in-legs.ensures refl;
  there = rw c.new_in-legs.ensures (All-nil (IsThere c.args.roster.now));
  read = λ left was. (left, (rw c.new_in-legs.ensures refl, refl), was);
}

pub returns-in_err-need_row-clause-refused : goal.returns-in_err-need_row-clause-refused
returns-in_err-need_row-clause-refused g c = λ left was bad.
    let none : c.need_row.result ≡ Err fault.BadPlanText = search rules in
    let here = c.loop.invariant.read left was in
    inl (legs_out c.args.roster.now left here.0 c.loop.legs.items here.1 (c.need_row.ensures.refused here.0 here.2 none))

pub returns-in_default-clause-read : goal.returns-in_default-clause-read
returns-in_default-clause-read g c = λ left was.
    let here = c.loop.invariant.read left was in
    let next = c.in_ok-need_row.ensures.read here.0 here.2 refl in
    let end = legs_end c.args.roster.now left here.0 next.0 c.loop.legs.items (fields_of c.need_row.new.row) here.1 next.1
    (ap result_ok (sym c.leg_in.ensures.leg) ∙ sym c.ok.ensures.value ∙ c.in_default.is) in
    (next.0, end.0, end.1, next.2)

pub returns-then-is_err-clause-refused : goal.returns-then-is_err-clause-refused
returns-then-is_err-clause-refused g c = λ left was bad.
    let here = c.loop.invariant.read left was in
    let next = c.in_ok-need_row.ensures.read here.0 here.2 refl in
    let full : 32 ≤ length c.loop.legs.items = search rules in
    inr (legs_many c.args.roster.now left here.0 next.0 c.loop.legs.items (fields_of c.need_row.new.row) c.in-Some.leg here.1 next.1
    (ap result_ok (sym c.leg_in.ensures.leg) ∙ sym c.ok.ensures.value ∙ c.in-Some.is) full)

pub loop-preserved : goal.loop-preserved
loop-preserved g c =
    let pushed : c.try_push.new.self.items ≡ c.loop.legs.items ++ c.in-Some.leg ∷ [] = search rules in
    let there : c.in-Some.leg.part < length c.args.roster.now.parts = search rules in
    record {
      counted = rw pushed (omega (arith, length-append c.loop.legs.items (c.in-Some.leg ∷ []), c.loop.invariant.counted));
      there = rw pushed (All-push (IsThere c.args.roster.now) c.loop.legs.items c.in-Some.leg c.loop.invariant.there there);
      read = λ left was.
          let here = c.loop.invariant.read left was in
          let next = c.in_ok-need_row.ensures.read here.0 here.2 refl in (
            next.0,
            rw pushed (legs_more c.args.roster.now left here.0 next.0 c.loop.legs.items (fields_of c.need_row.new.row) c.in-Some.leg
                here.1 next.1 (ap result_ok (sym c.leg_in.ensures.leg) ∙ sym c.ok.ensures.value ∙ c.in-Some.is)),
            next.2,
          );
    }

pub returns-clause-refused : goal.returns-clause-refused
returns-clause-refused g c = λ left was bad.
    let here = c.loop.invariant.read left was in
    inr (legs_over c.args.roster.now left here.0 c.loop.legs.items here.1 (omega (arith, c.loop.invariant.counted, c.loop-test.false)))

-- ---- goals that `grind` closes; the search that is tried before it takes longer

pub returns-in_default-clause-faults : goal.returns-in_default-clause-faults
returns-in_default-clause-faults g c = grind (arith, common_steps)

pub returns-then-is_err-clause-faults : goal.returns-then-is_err-clause-faults
returns-then-is_err-clause-faults g c = grind (arith, common_steps)

pub returns-in_default-clause-refused : goal.returns-in_default-clause-refused
returns-in_default-clause-refused g c = grind (arith, common_steps)

pub returns-in_default-clause-there : goal.returns-in_default-clause-there
returns-in_default-clause-there g c = grind (arith, common_steps)

pub returns-then-is_err-clause-there : goal.returns-then-is_err-clause-there
returns-then-is_err-clause-there g c = grind (arith, common_steps)

pub returns-then-is_err-clause-read : goal.returns-then-is_err-clause-read
returns-then-is_err-clause-read g c = grind (arith, common_steps)
