-- `tell_faults`: the faults, and their sum.
use Rattle.nms_show.specs.Safe.{IsSafe}
use Rattle.nms_show.proofs.Offered.{safe_part, safe_then, writes_err}
use Rattle.nms_explain_toml.proofs.map.explaining.tell_faults.Goals as goal

pub returns-in_err-tell_summary-clause-safe : goal.returns-in_err-tell_summary-clause-safe
returns-in_err-tell_summary-clause-safe g c =
    writes_err IsSafe _ _ c.from_residual-in_err-tell_summary.result c.from_residual-in_err-tell_summary.ensures.0
    (safe_part _ _ _ c.in_ok-tell_each.ensures c.in_err-tell_summary.ensures.safe)

pub returns-clause-safe : goal.returns-clause-safe
returns-clause-safe g c = safe_then _ _ _ c.in_ok-tell_each.ensures c.in_ok-tell_summary.ensures.safe
