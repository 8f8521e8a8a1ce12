-- `add_shown`: the execution that is pushed is its row.
use Rattle.std.proofs.Common.{◌++◌, ◌∷◌, [], ℕ, List, ap, ◌∙◌}
use Rattle.nms_drawing.proofs.trades.add_shown.Goals as goal

pub returns-clause-executions : goal.returns-clause-executions
returns-clause-executions c =
    c.in_ok-push.ensures.items ∙ ap (λ (row : List ℕ). c.args.rows.now.executions.items ++ row ∷ []) c.execution_row.ensures
