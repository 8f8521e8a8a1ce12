-- `explain_text`: it ends by the counts of all the records; what was passed on is safe.
use Rattle.nms_show.specs.Safe.{IsSafe}
use Rattle.nms_show.proofs.Offered.{safe_part, safe_then, whole_part, writes_err}
use Rattle.nms_explain.proofs.PlanFacts.{ends_as_plan}
use Rattle.nms_explain.proofs.plan_text.explain_text.Goals as goal

pub returns-in_default-clause-safe : goal.returns-in_default-clause-safe
returns-in_default-clause-safe g c = whole_part _ _ c.in_ok-came.ensures.safe

pub returns-in_err-ending-clause-safe : goal.returns-in_err-ending-clause-safe
returns-in_err-ending-clause-safe g c =
    writes_err IsSafe _ _ c.from_residual-in_err-ending.result c.from_residual-in_err-ending.ensures.0
    (whole_part _ _ c.in_ok-came.ensures.safe)

pub returns-in_err-pass_on-clause-safe : goal.returns-in_err-pass_on-clause-safe
returns-in_err-pass_on-clause-safe g c =
    writes_err IsSafe _ _ c.from_residual-in_err-pass_on.result c.from_residual-in_err-pass_on.ensures.0
    (safe_part _ _ _ c.in_ok-came.ensures.safe c.in_err-pass_on.ensures.safe)

pub returns : goal.returns
returns g c = record {
  ending = λ bytes reads.
      ends_as_plan c.args.asked.now.roster.now bytes c.in_ok-came.came c.in_ok-ending.ending (c.in_ok-came.ensures.come bytes reads)
      c.in_ok-ending.ensures.ending;
  safe = safe_then _ _ _ c.in_ok-came.ensures.safe c.in_ok-pass_on.ensures.safe;
}
