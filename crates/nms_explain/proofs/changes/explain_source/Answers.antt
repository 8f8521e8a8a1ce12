-- `explain_source`: it ends by the tally of all the records; what was passed on is safe.
use Rattle.nms_lines.specs.Lines.{reading}
use Rattle.nms_show.specs.Safe.{IsSafe}
use Rattle.nms_show.proofs.Offered.{safe_part, safe_then, whole_part, writes_err}
use Rattle.nms_explain.proofs.CountFacts.{ends_by}
use Rattle.nms_explain.proofs.changes.explain_source.Goals as goal

pub returns-in_err-tell_sum-clause-safe : goal.returns-in_err-tell_sum-clause-safe
returns-in_err-tell_sum-clause-safe g c =
    writes_err IsSafe _ _ c.from_residual-in_err-tell_sum.result c.from_residual-in_err-tell_sum.ensures.0
    (whole_part _ _ c.in_ok-tally.ensures.safe)

pub returns-in_err-pass_on-clause-safe : goal.returns-in_err-pass_on-clause-safe
returns-in_err-pass_on-clause-safe g c =
    writes_err IsSafe _ _ c.from_residual-in_err-pass_on.result c.from_residual-in_err-pass_on.ensures.0
    (safe_part _ _ _ c.in_ok-tally.ensures.safe c.in_err-pass_on.ensures.safe)

pub returns : goal.returns
returns g c = record {
  ending = λ bytes reads.
      ends_by (reading c.args.asked.now.roster.now c.args.asked.now.from) bytes c.in_ok-tally.tally c.ending_of.result
      (c.in_ok-tally.ensures.counts bytes reads) c.ending_of.ensures;
  safe = safe_then _ _ _ c.in_ok-tally.ensures.safe c.in_ok-pass_on.ensures.safe;
}
