-- `name_span`: no more names ended than bytes come before this one.
use Rattle.std.proofs.Common.{◌≤◌}
use Rattle.nms_explain.proofs.span.name_span.Given as goal

abbrev pub invariant-loop-at : goal.invariant-loop-at
invariant-loop-at l = l.passed ≤ l.at
