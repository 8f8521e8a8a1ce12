-- `read_cuts`: clauses `refused` and `read` and the turns of its loop, by `cuts_bad`, `cuts_behind`,
-- `cuts_end`, `cuts_many`, `cuts_more`, `cuts_out` and `cuts_over`.
use Rattle.std.proofs.Common.{rules, arith, ◌≡◌, ◌≤◌, ◌++◌, ◌∷◌, ◌∙◌, [], Some, Err, refl, sym, ap, length}
use Rattle.std.specs.Result.{result_ok}
use Rattle.std.proofs.lemmas.Grind.{common_steps}
use Rattle.std.proofs.lemmas.List.{length-append}
use Rattle.csv.specs.Records.{fields_of}
use Rattle.nms_lines.specs.PlanRecords.{cut_in}
use Rattle.nms_lines.specs.declared.plan_text_fault.PlanTextFault.TheVariants as fault
use Rattle.nms_lines.proofs.PlanFacts.{cuts_bad, cuts_behind, cuts_end, cuts_many, cuts_more, cuts_out, cuts_over}
use Rattle.nms_lines.proofs.plan_reading.read_cuts.Goals as goal

pub returns-in_err-need_end-clause-refused : goal.returns-in_err-need_end-clause-refused
returns-in_err-need_end-clause-refused g c = λ left was bad.
    let behind : c.need_end.result ≡ Err fault.BadPlanText = search rules in
    let here = c.loop.invariant.1 left was in
    cuts_behind (fields_of c.args.row.now ∷ left) here.0 c.loop.cuts.items (fields_of c.loop.row) here.1
    (sym c.is_end.ensures ∙ c.if-is_end.true) (c.need_end.ensures.refused here.0 here.2 behind)

pub returns-then-is_end-clause-read : goal.returns-then-is_end-clause-read
returns-then-is_end-clause-read g c = λ left was.
    let here = c.loop.invariant.1 left was in
    cuts_end (fields_of c.args.row.now ∷ left) here.0 c.loop.cuts.items (fields_of c.loop.row) here.1
    (sym c.is_end.ensures ∙ c.if-is_end.true) (c.in_ok-need_end.ensures.read here.0 here.2 refl)

pub returns-in_default-clause-refused : goal.returns-in_default-clause-refused
returns-in_default-clause-refused g c = λ left was bad.
    let here = c.loop.invariant.1 left was in
    cuts_bad (fields_of c.args.row.now ∷ left) here.0 c.loop.cuts.items (fields_of c.loop.row) here.1
    (sym c.is_end.ensures ∙ c.if-is_end.false) (ap result_ok (sym c.cut_in.ensures) ∙ sym c.ok.ensures.value ∙ c.in_default.is)

pub returns-then-is_err-clause-refused : goal.returns-then-is_err-clause-refused
returns-then-is_err-clause-refused g c = λ left was bad.
    let here = c.loop.invariant.1 left was in
    let one : cut_in (fields_of c.loop.row) ≡ Some c.in-Some.cut =
    ap result_ok (sym c.cut_in.ensures) ∙ sym c.ok.ensures.value ∙ c.in-Some.is in
    let full : 32 ≤ length c.loop.cuts.items = search rules in
    cuts_many (fields_of c.args.row.now ∷ left) here.0 c.loop.cuts.items (fields_of c.loop.row) c.in-Some.cut here.1
    (sym c.is_end.ensures ∙ c.if-is_end.false) one full

pub returns-in_err-need_row-clause-refused : goal.returns-in_err-need_row-clause-refused
returns-in_err-need_row-clause-refused g c = λ left was bad.
    let here = c.loop.invariant.1 left was in
    let one : cut_in (fields_of c.loop.row) ≡ Some c.in-Some.cut =
    ap result_ok (sym c.cut_in.ensures) ∙ sym c.ok.ensures.value ∙ c.in-Some.is in
    let out : c.need_row.result ≡ Err fault.BadPlanText = search rules in
    let next = cuts_more (fields_of c.args.row.now ∷ left) here.0 c.loop.cuts.items (fields_of c.loop.row) c.in-Some.cut here.1
    (sym c.is_end.ensures ∙ c.if-is_end.false) one in
    cuts_out (fields_of c.args.row.now ∷ left) (c.loop.cuts.items ++ c.in-Some.cut ∷ []) here.0 next
    (c.need_row.ensures.refused here.0 here.2 out)

pub loop-preserved : goal.loop-preserved
loop-preserved g c =
    let pushed : c.try_push.new.self.items ≡ c.loop.cuts.items ++ c.in-Some.cut ∷ [] = search rules in
    let one : cut_in (fields_of c.loop.row) ≡ Some c.in-Some.cut =
    ap result_ok (sym c.cut_in.ensures) ∙ sym c.ok.ensures.value ∙ c.in-Some.is in (
      rw pushed (omega (arith, length-append c.loop.cuts.items (c.in-Some.cut ∷ []), c.loop.invariant.0)),
      λ left was.
          let here = c.loop.invariant.1 left was in
          let row = c.in_ok-need_row.ensures.read here.0 here.2 refl in
          let next = cuts_more (fields_of c.args.row.now ∷ left) here.0 c.loop.cuts.items (fields_of c.loop.row) c.in-Some.cut here.1
          (sym c.is_end.ensures ∙ c.if-is_end.false) one in
          (row.0, rw (pushed, ← row.1) next, row.2),
    )

pub returns-clause-refused : goal.returns-clause-refused
returns-clause-refused g c = λ left was bad.
    let here = c.loop.invariant.1 left was in
    cuts_over (fields_of c.args.row.now ∷ left) c.loop.cuts.items (fields_of c.loop.row ∷ here.0) here.1
    (omega (arith, c.loop.invariant.0, c.loop-test.false))

-- ---- goals that `grind` closes; the search that is tried before it takes longer

pub returns-then-is_end-clause-refused : goal.returns-then-is_end-clause-refused
returns-then-is_end-clause-refused g c = grind (arith, common_steps)

pub loop-init : goal.loop-init
loop-init g c = grind (arith, common_steps)

pub returns-then-is_err-clause-faults : goal.returns-then-is_err-clause-faults
returns-then-is_err-clause-faults g c = grind (arith, common_steps)

pub returns-then-is_end-clause-faults : goal.returns-then-is_end-clause-faults
returns-then-is_end-clause-faults g c = grind (arith, common_steps)

pub returns-in_err-need_row-clause-faults : goal.returns-in_err-need_row-clause-faults
returns-in_err-need_row-clause-faults g c = grind (arith, common_steps)

pub returns-then-is_err-clause-read : goal.returns-then-is_err-clause-read
returns-then-is_err-clause-read g c = grind (arith, common_steps)

pub returns-in_default-clause-faults : goal.returns-in_default-clause-faults
returns-in_default-clause-faults g c = grind (arith, common_steps)
