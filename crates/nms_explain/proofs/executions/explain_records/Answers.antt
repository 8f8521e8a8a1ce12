-- `explain_records`: one record more.
use Rattle.nms_show.specs.Safe.{IsSafe}
use Rattle.nms_show.proofs.Offered.{nothing_added, safe_part, safe_then, whole_part, writes_err}
use Rattle.nms_explain.proofs.executions.explain_records.Goals as goal

pub loop-turn-init : goal.loop-turn-init
loop-turn-init g c = nothing_added (g.W.Write.contents c.args.answers.now)

pub returns-in_err-told-in-Ok-true : goal.returns-in_err-told-in-Ok-true
returns-in_err-told-in-Ok-true g c = record {
  safe = writes_err IsSafe _ _ c.from_residual.result c.from_residual.ensures.0 (whole_part _ _ c.loop-turn.invariant);
}

pub returns-in_err-pass_on-in-Ok-true : goal.returns-in_err-pass_on-in-Ok-true
returns-in_err-pass_on-in-Ok-true g c = record {
  safe = writes_err IsSafe _ _ c.from_residual-in_err-pass_on-in-Ok-true.result c.from_residual-in_err-pass_on-in-Ok-true.ensures.0
      (safe_part _ _ _ c.loop-turn.invariant c.in_err-pass_on-in-Ok-true.ensures.safe);
}

pub loop-turn-preserved : goal.loop-turn-preserved
loop-turn-preserved g c = safe_then _ _ _ c.loop-turn.invariant c.in_ok-pass_on-in-Ok-true.ensures.safe
