-- `plan_text`: clause `written`: the text is that of the plan that the numbers say.
use Rattle.std.proofs.Common.{◌≡◌, ◌++◌, ◌∙◌, Ok, List, ℕ, ap, length, subst, sym}
use Rattle.std.specs.Prelude.{IfOk, OnOk}
use Rattle.std.proofs.lemmas.Result.{on_ok_weaker}
use Rattle.nms_quote.specs.Roster.{Listing, sizes_of}
use Rattle.nms_lines.specs.PlanText.{plan_text}
use Rattle.nms_sweep.specs.Planned.{Planned}
use Rattle.nms_calls.specs.Findings.{made_said}
use Rattle.nms_calls.specs.Opened.{Opened, sizes_on}
use Rattle.nms_calls.specs.OrderSaid.{order_said}
use Rattle.nms_calls.specs.PlanSaid.{plan_said}
use Rattle.nms_calls.specs.Written.{IsWritten}
use Rattle.nms_calls.proofs.OpenedLemmas.{made_when}
use Rattle.nms_calls.proofs.open_board.OpenBoard.plan_text.Goals as goal

pub returns-clause-written : goal.returns-clause-written
returns-clause-written c =
    let opened : Opened =
    record { settings = c.self.inside.setup; board = c.self.inside.rolling.board; before = c.self.inside.rolling.before } in
    let n = c.args.order.now in let m = c.args.plan.now in let order = c.in_ok-order.order in
    let made : Planned = record { plan = c.in_ok-plan.plan; cuts = c.in_ok-plan.certificate.items } in
    let said : order_said (sizes_on opened) n ≡ Ok order =
    ap (λ (roster : Listing). order_said (sizes_of roster) n) (sym c.roster.ensures) ∙ sym c.in_ok-order.ensures.order in
    let is : plan_said (length opened.settings.roster.parts) order m ≡ Ok made =
    ap (λ (roster : Listing). plan_said (length roster.parts) order m) (sym c.roster-2.ensures) ∙ c.in_ok-plan.ensures in
    let whole : made_said opened.settings n m ≡ Ok (order, made) = made_when opened n m order made said is in
    let out = c.put_text.new.out in let bytes = c.put_text.new.bytes in
    let text_is : c.as_slice.result.now ≡ plan_text opened.settings.roster made.plan made.cuts =
    c.as_slice.ensures.value ∙ c.in-Ok.ensures
    ∙ ap (λ (before : List ℕ). before ++ plan_text c.roster-3.result.now made.plan made.cuts) c.clear.ensures.items
    ∙ ap (λ (roster : Listing). plan_text roster made.plan made.cuts) c.roster-3.ensures in
    subst (λ (o : Opened). OnOk c.put_text.result (IfOk (made_said o.settings n m)
    (λ both. IsWritten (plan_text o.settings.roster both.1.plan both.1.cuts) c.args.out.now out bytes))) c.self.view_is
    (on_ok_weaker c.put_text.result
    (λ written. rw whole (subst (λ (text : List ℕ). IsWritten text c.args.out.now out bytes) text_is written))
    c.put_text.ensures.written)
