-- `tell_findings`: no more faults are reported one by one than the most.
use Rattle.std.proofs.Common.{◌≤◌}
use Rattle.nms_explain_toml.specs.declared.setup.explaining.TheConstants.{MOST_TOLD}
use Rattle.nms_explain_toml.proofs.setup.explaining.tell_findings.Given as goal

abbrev pub invariant-loop-finding : goal.invariant-loop-finding
invariant-loop-finding l = l.summary.told ≤ MOST_TOLD
