-- `read_head`: clauses `refused` and `read`, by `if_ok_or` and `no_head`.
use Rattle.std.proofs.Common.{arith, rules, ◌≡◌, ◌∙◌, List, ◌∷◌, refl, sym, ap, Err, None, Some}
use Rattle.std.specs.Result.{result_ok}
use Rattle.std.proofs.lemmas.Grind.{common_steps}
use Rattle.nms_lines.specs.Layout.{Record}
use Rattle.nms_lines.specs.Left.{AreLeft}
use Rattle.nms_lines.proofs.PlanFacts.{if_ok_or, no_head}
use Rattle.csv.specs.Records.{fields_of}
use Rattle.nms_lines.specs.PlanRecords.{Head, head_in}
use Rattle.nms_lines.specs.declared.plan_text_fault.PlanTextFault.TheVariants as fault
use Rattle.nms_lines.proofs.plan_reading.read_head.Goals as goal

-- src/plan_reading.rt:63:5
pub returns-in_err-need_row-clause-refused : goal.returns-in_err-need_row-clause-refused
returns-in_err-need_row-clause-refused g c = λ left was bad.
    let none : c.need_row.result ≡ Err fault.BadPlanText = search rules in
    let empty = c.need_row.ensures.refused left was none in
    rw empty refl

-- src/plan_reading.rt:52:1
pub returns-clause-read : goal.returns-clause-read
returns-clause-read g c = λ left was.
    let next = c.in_ok-need_row.ensures.read left was refl in
    let row : Record = fields_of c.need_row.new.row in
    if_ok_or (λ (head : Head). (fields : Record) × (more : List Record) × (left ≡ fields ∷ more)
    × (head_in c.args.roster.now fields ≡ Some head) × AreLeft g.R.Read.remaining c.need_row.new.reader more)
    c.ok.result fault.BadPlanText c.ok_or.result c.ok_or.ensures.value
    (λ head one. (row, next.0, next.1, ap result_ok (sym c.head_in.ensures.head) ∙ sym c.ok.ensures.value ∙ one, next.2))

-- src/plan_reading.rt:52:1
pub returns-clause-refused : goal.returns-clause-refused
returns-clause-refused g c = λ left was bad.
    let next = c.in_ok-need_row.ensures.read left was refl in
    let none : head_in c.args.roster.now (fields_of c.need_row.new.row) ≡ None = search rules in
    no_head c.args.roster.now left (fields_of c.need_row.new.row) next.0 next.1 none

-- ---- goals that `grind` closes; the search that is tried before it takes longer

pub returns-clause-there : goal.returns-clause-there
returns-clause-there g c = grind (arith, common_steps)

pub returns-clause-named : goal.returns-clause-named
returns-clause-named g c = grind (arith, common_steps)

pub returns-clause-faults : goal.returns-clause-faults
returns-clause-faults g c = grind (arith, common_steps)
