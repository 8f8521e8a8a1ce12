-- `apply`: the change is the one that the numbers say.
use Rattle.std.proofs.Common.{◌≡◌, ◌∙◌, Ok, Result, ap, subst, sym}
use Rattle.std.proofs.lemmas.Result.{on_ok_weaker}
use Rattle.std.specs.Prelude.{IfOk}
use Rattle.nms_quote.specs.Roster.{Listing, sizes_of}
use Rattle.nms_quote.specs.declared.change.Change.{Change}
use Rattle.nms_calls.specs.ChangeSaid.{change_said}
use Rattle.nms_calls.specs.Opened.{GrewBy, HasApplied, Opened, sizes_on}
use Rattle.nms_calls.specs.declared.call_fault.CallFault.{CallFault}
use Rattle.nms_calls.proofs.open_board.OpenBoard.apply.Goals as goal

pub returns-clause-applied : goal.returns-clause-applied
returns-clause-applied c =
    let n = c.args.numbers.now in let old = c.args.self.now in let then = c.apply_change.new.self in
    let said : change_said (sizes_of c.self.inside.setup.roster) n ≡ Ok c.in_ok-change.change =
    ap (λ (roster : Listing). change_said (sizes_of roster) n) (sym c.roster.ensures) ∙ sym c.in_ok-change.ensures.change in
    let there : change_said (sizes_on old) n ≡ Ok c.in_ok-change.change =
    subst (λ (o : Opened). change_said (sizes_on o) n ≡ Ok c.in_ok-change.change) c.self.view_is said in
    on_ok_weaker c.apply_change.result
    (λ applied. subst (λ (r : Result Change CallFault). IfOk r (HasApplied old then)) (sym there) applied)
    c.apply_change.ensures.applied

pub returns-clause-stands : goal.returns-clause-stands
returns-clause-stands c =
    let n = c.args.numbers.now in let old = c.args.self.now in let then = c.apply_change.new.self in
    let said : change_said (sizes_of c.self.inside.setup.roster) n ≡ Ok c.in_ok-change.change =
    ap (λ (roster : Listing). change_said (sizes_of roster) n) (sym c.roster.ensures) ∙ sym c.in_ok-change.ensures.change in
    let there : change_said (sizes_on old) n ≡ Ok c.in_ok-change.change =
    subst (λ (o : Opened). change_said (sizes_on o) n ≡ Ok c.in_ok-change.change) c.self.view_is said in
    on_ok_weaker c.apply_change.result
    (λ stands. subst (λ (r : Result Change CallFault). IfOk r (λ change. GrewBy change old then)) (sym there) stands)
    c.apply_change.ensures.stands
