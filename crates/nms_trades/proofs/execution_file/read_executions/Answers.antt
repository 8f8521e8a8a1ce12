-- `read_executions`: at first there are no records, by `numbered_none`.
use Rattle.std.proofs.Common.{[], List, sym, subst}
use Rattle.nms_trades.specs.Answers.{AreNumbered}
use Rattle.nms_trades.specs.declared.execution.Execution.{Execution}
use Rattle.nms_trades.specs.declared.execution_file.Refusal.{Refusal}
use Rattle.nms_trades.proofs.OrderFacts.{numbered_none}
use Rattle.nms_trades.proofs.execution_file.read_executions.Goals as goal

pub take_records-requires-clause-none : goal.take_records-requires-clause-none
take_records-requires-clause-none g c =
    subst (λ (xs : List Execution). AreNumbered 0 xs c.new-2.result.items) (sym c.new.ensures.items)
    (subst (λ (ys : List Refusal). AreNumbered 0 [] ys) (sym c.new-2.ensures.items) numbered_none)
