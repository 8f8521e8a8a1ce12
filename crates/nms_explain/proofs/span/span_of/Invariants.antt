-- `span_of`: no more fields ended than bytes were read.
use Rattle.std.proofs.Common.{◌≤◌}
use Rattle.nms_explain.proofs.span.span_of.Given as goal

abbrev pub invariant-loop-at : goal.invariant-loop-at
invariant-loop-at l = l.passed ≤ l.at
