-- `read_records`: clauses `refused` and `read`, by `no_cuts`, `no_legs` and `plan_found`.
use Rattle.std.proofs.Common.{arith, rules, ◌≡◌, ◌≤◌, Err, length}
use Rattle.std.proofs.lemmas.Grind.{common_steps}
use Rattle.csv.specs.Records.{fields_of}
use Rattle.nms_lines.specs.declared.plan_text_fault.PlanTextFault.TheVariants as fault
use Rattle.nms_lines.proofs.PlanFacts.{no_cuts, no_legs, plan_found}
use Rattle.nms_lines.proofs.plan_reading.read_records.Goals as goal

pub returns-in_err-head-clause-refused : goal.returns-in_err-head-clause-refused
returns-in_err-head-clause-refused g c = λ left was bad.
    let none : c.read_head.result ≡ Err fault.BadPlanText = search rules in
    c.read_head.ensures.refused left was none

pub returns-in_err-legs-clause-refused : goal.returns-in_err-legs-clause-refused
returns-in_err-legs-clause-refused g c = λ left was bad.
    let none : c.read_legs.result ≡ Err fault.BadPlanText = search rules in
    let head = c.in_ok-head.ensures.read left was in
    no_legs c.args.roster.now left head.0 head.1 c.in_ok-head.head head.2 head.3 (c.read_legs.ensures.refused head.1 head.4 none)

pub returns-in_err-certificate-clause-refused : goal.returns-in_err-certificate-clause-refused
returns-in_err-certificate-clause-refused g c = λ left was bad.
    let none : c.read_cuts.result ≡ Err fault.BadPlanText = search rules in
    let head = c.in_ok-head.ensures.read left was in
    let legs = c.in_ok-legs.ensures.read head.1 head.4 in
    no_cuts c.args.roster.now left head.1 legs.0 head.0 (fields_of c.read_legs.new.row) c.in_ok-head.head head.2 head.3 legs.2
    (c.read_cuts.ensures.refused legs.0 legs.3 none)

pub returns-clause-read : goal.returns-clause-read
returns-clause-read g c = λ left was.
    let head = c.in_ok-head.ensures.read left was in
    let legs = c.in_ok-legs.ensures.read head.1 head.4 in
    let cuts = c.in_ok-certificate.ensures.read legs.0 legs.3 in
    let within : length c.in_ok-legs.legs.items ≤ 32 = search rules in
    let most : length c.in_ok-certificate.certificate.items ≤ 32 = search rules in
    let view = c.head.view_is in
    rw view (plan_found c.args.roster.now left head.1 legs.0 head.0 (fields_of c.read_legs.new.row) c.in_ok-head.head
    c.in_ok-legs.legs.items c.in_ok-certificate.certificate.items head.2 head.3 legs.1 legs.2 cuts within most)

-- ---- goals that `grind` closes; the search that is tried before it takes longer

pub returns-clause-faults : goal.returns-clause-faults
returns-clause-faults g c = grind (arith, common_steps)

pub returns-clause-sym : goal.returns-clause-sym
returns-clause-sym g c = grind (arith, common_steps)

pub returns-clause-self_help : goal.returns-clause-self_help
returns-clause-self_help g c = grind (arith, common_steps)

pub returns-clause-refused : goal.returns-clause-refused
returns-clause-refused g c = grind (arith, common_steps)

pub returns-clause-parts : goal.returns-clause-parts
returns-clause-parts g c = grind (arith, common_steps)

pub returns-in_err-certificate-clause-faults : goal.returns-in_err-certificate-clause-faults
returns-in_err-certificate-clause-faults g c = grind (arith, common_steps)
