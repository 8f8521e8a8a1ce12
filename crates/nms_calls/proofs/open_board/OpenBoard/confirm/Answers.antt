-- `confirm`: what is doubtful on the board, of the plan with the board's own version, is what is doubtful of the plan on the look.
use Rattle.std.proofs.Common.{◌≡◌, ◌==◌, ◌∙◌, Ok, Option, Result, ap, length, subst, sym}
use Rattle.std.specs.Result.{result_err}
use Rattle.nms_quote.specs.Roster.{Listing, sizes_of}
use Rattle.nms_board.specs.Cells.{Board}
use Rattle.nms_board.specs.Shown.{seen_on}
use Rattle.nms_cert.specs.declared.doubt.Doubt.{Doubt}
use Rattle.nms_sweep.specs.Planned.{Planned}
use Rattle.nms_calls.specs.Findings.{doubt_written, doubted, finding}
use Rattle.nms_calls.specs.Opened.{Opened, sizes_on, version}
use Rattle.nms_calls.specs.OrderSaid.{order_said}
use Rattle.nms_calls.specs.PlanSaid.{plan_said}
use Rattle.nms_calls.proofs.OpenedLemmas.{finding_when}
use Rattle.nms_calls.proofs.open_board.OpenBoard.confirm.Goals as goal
use Rattle.nms_calls.proofs.open_board.OpenBoard.confirm.Goals.{After-confirm_on}

the_finding : (c : After-confirm_on) → finding c.args.self.now c.args.numbers.now c.args.plan.now ≡ Ok (result_err c.confirm_on.result)
the_finding c =
    let opened : Opened =
    record { settings = c.self.inside.setup; board = c.self.inside.rolling.board; before = c.self.inside.rolling.before } in
    let n = c.args.numbers.now in let m = c.args.plan.now in let order = c.in_ok-order.order in
    let made : Planned = record { plan = c.read_into.new.plan; cuts = c.read_into.new.certificate.items } in
    let own = c.own_version.result in
    let said : order_said (sizes_on opened) n ≡ Ok order =
    ap (λ (roster : Listing). order_said (sizes_of roster) n) (sym c.roster.ensures) ∙ sym c.in_ok-order.ensures.order in
    let is : plan_said (length opened.settings.roster.parts) order m ≡ Ok made =
    ap (λ (roster : Listing). plan_said (length roster.parts) order m) (sym c.roster-2.ensures) ∙ c.in_ok-read_into.ensures.read in
    let seen_is : seen_on c.board-board.result.now order.sym ≡ seen_on opened.board order.sym =
    ap (λ (b : Board). seen_on b order.sym) c.board-board.ensures in
    let same : (own == opened.board.applied) ≡ (made.plan.version == version opened) =
    subst (λ (o : Opened). (own == o.board.applied) ≡ (made.plan.version == version o)) (sym c.self.view_is) c.own_version.ensures in
    subst (λ (o : Opened). finding o n m ≡ Ok (result_err c.confirm_on.result)) c.self.view_is
    (finding_when opened n m order made own (seen_on c.board-board.result.now order.sym) c.fees.result.now (result_err c.confirm_on.result)
    said is seen_is c.fees.ensures.value same c.confirm_on.ensures.first)

pub returns-in-Ok-clause-answer : goal.returns-in-Ok-clause-answer
returns-in-Ok-clause-answer c =
    let none = ap (λ (r : Result (Unit {0}) Doubt). result_err r) c.in-Ok.is in
    sym (ap doubted (the_finding (goal.at.returns-in-Ok-clause-answer c).After-confirm_on) ∙ ap (λ (d : Option Doubt). doubted (Ok d)) none)

pub returns-in-Ok-clause-written : goal.returns-in-Ok-clause-written
returns-in-Ok-clause-written c =
    let none = ap (λ (r : Result (Unit {0}) Doubt). result_err r) c.in-Ok.is in
    c.none.ensures
    ∙ sym (ap (doubt_written c.args.out.now) (the_finding (goal.at.returns-in-Ok-clause-written c).After-confirm_on)
    ∙ ap (λ (d : Option Doubt). doubt_written c.args.out.now (Ok d)) none)

pub returns-in-Err-clause-answer : goal.returns-in-Err-clause-answer
returns-in-Err-clause-answer c =
    let some = ap (λ (r : Result (Unit {0}) Doubt). result_err r) c.in-Err.is in
    sym (ap doubted (the_finding (goal.at.returns-in-Err-clause-answer c).After-confirm_on) ∙ ap (λ (d : Option Doubt). doubted (Ok d)) some)

pub returns-in-Err-clause-written : goal.returns-in-Err-clause-written
returns-in-Err-clause-written c =
    let some = ap (λ (r : Result (Unit {0}) Doubt). result_err r) c.in-Err.is in
    c.of.ensures
    ∙ sym (ap (doubt_written c.args.out.now) (the_finding (goal.at.returns-in-Err-clause-written c).After-confirm_on)
    ∙ ap (λ (d : Option Doubt). doubt_written c.args.out.now (Ok d)) some)
