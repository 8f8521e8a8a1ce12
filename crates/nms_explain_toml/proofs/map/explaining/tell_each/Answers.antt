-- `tell_each`: one fault more.
use Rattle.nms_show.specs.Safe.{IsSafe}
use Rattle.nms_show.proofs.Offered.{nothing_added, safe_part, safe_then, writes_err}
use Rattle.nms_explain_toml.proofs.map.explaining.tell_each.Goals as goal

pub loop-finding-init : goal.loop-finding-init
loop-finding-init g c = nothing_added (g.W.Write.contents c.args.answers.now)

pub returns-in_err-tell_finding : goal.returns-in_err-tell_finding
returns-in_err-tell_finding g c =
    writes_err IsSafe _ _ c.from_residual.result c.from_residual.ensures.0
    (safe_part _ _ _ c.loop-finding.invariant c.in_err-tell_finding.ensures.safe)

pub returns : goal.returns
returns g c = c.loop-finding.invariant

pub loop-finding-preserved : goal.loop-finding-preserved
loop-finding-preserved g c = safe_then _ _ _ c.loop-finding.invariant c.in_ok-tell_finding.ensures.safe
