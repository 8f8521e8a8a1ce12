-- `take_record`: the record has its number, by `numbered_execution` or `numbered_refusal`, and its execution is as
-- `read_execution` promises.
use Rattle.std.proofs.Common.{◌+◌, All, List, sym, subst, ◌∙◌}
use Rattle.std.proofs.lemmas.List.Elements.{All-push}
use Rattle.nms_trades.specs.Answers.{AreNumbered}
use Rattle.nms_trades.specs.Reading.{IsInWindow, IsOn}
use Rattle.nms_trades.specs.declared.execution.Execution.{Execution}
use Rattle.nms_trades.specs.declared.execution_file.Refusal.{Refusal}
use Rattle.nms_trades.proofs.OrderFacts.{numbered_execution, numbered_refusal}
use Rattle.nms_trades.proofs.execution_file.take_record.Goals as goal

pub returns-in-Ok-push-clause-numbered : goal.returns-in-Ok-push-clause-numbered
returns-in-Ok-push-clause-numbered c = λ last is had.
    let executions = c.args.records.now.executions.items in
    let refused = c.args.records.now.refused.items in
    subst (λ n. AreNumbered n c.push.new.self.items refused) (sym is)
    (subst (λ (xs : List Execution). AreNumbered (last + 1) xs refused) (sym c.in-Ok-push.ensures.items)
    (numbered_execution last executions refused c.in-Ok.execution (c.in-Ok.ensures.number ∙ is) had))

pub returns-in-Ok-push-clause-on : goal.returns-in-Ok-push-clause-on
returns-in-Ok-push-clause-on c =
    let known = IsOn c.args.roster.now c.args.clock.now.changes in
    subst (All known) (sym c.in-Ok-push.ensures.items)
    (All-push known c.args.records.now.executions.items c.in-Ok.execution c.requires.on c.in-Ok.ensures.on)

pub returns-in-Ok-push-clause-window : goal.returns-in-Ok-push-clause-window
returns-in-Ok-push-clause-window c =
    subst (All IsInWindow) (sym c.in-Ok-push.ensures.items)
    (All-push IsInWindow c.args.records.now.executions.items c.in-Ok.execution c.requires.window c.in-Ok.ensures.window)

pub returns-in-Ok-push-2-clause-numbered : goal.returns-in-Ok-push-2-clause-numbered
returns-in-Ok-push-2-clause-numbered c = λ last is had.
    let executions = c.args.records.now.executions.items in
    let refused = c.args.records.now.refused.items in
    let one : Refusal = record { number = c.args.number; fault = c.in-Err.fault } in
    subst (λ n. AreNumbered n executions c.push-in-Err.new.self.items) (sym is)
    (subst (λ (xs : List Refusal). AreNumbered (last + 1) executions xs) (sym c.in-Ok-push-2.ensures.items)
    (numbered_refusal last executions refused one is had))
