-- `explain_text`: the records, and then the counts.
use Rattle.nms_show.specs.Safe.{IsSafe}
use Rattle.nms_show.proofs.Offered.{safe_part, safe_then, whole_part, writes_err}
use Rattle.nms_explain.proofs.executions.explain_text.Goals as goal

pub returns-in_err-tell_sum-clause-safe : goal.returns-in_err-tell_sum-clause-safe
returns-in_err-tell_sum-clause-safe g c =
    writes_err IsSafe _ _ c.from_residual-in_err-tell_sum.result c.from_residual-in_err-tell_sum.ensures.0
    (whole_part _ _ c.in_ok-records.ensures.safe)

pub returns-in_err-pass_on-clause-safe : goal.returns-in_err-pass_on-clause-safe
returns-in_err-pass_on-clause-safe g c =
    writes_err IsSafe _ _ c.from_residual-in_err-pass_on.result c.from_residual-in_err-pass_on.ensures.0
    (safe_part _ _ _ c.in_ok-records.ensures.safe c.in_err-pass_on.ensures.safe)

pub returns-then-is_empty-clause-safe : goal.returns-then-is_empty-clause-safe
returns-then-is_empty-clause-safe g c = safe_then _ _ _ c.in_ok-records.ensures.safe c.in_ok-pass_on.ensures.safe

pub returns-else-is_empty-clause-safe : goal.returns-else-is_empty-clause-safe
returns-else-is_empty-clause-safe g c = safe_then _ _ _ c.in_ok-records.ensures.safe c.in_ok-pass_on.ensures.safe
