-- `open_quote`: the quote that opened last was read.
use Rattle.std.proofs.Common.{◌≤◌}
use Rattle.nms_explain.proofs.span.open_quote.Given as goal

abbrev pub invariant-loop-at : goal.invariant-loop-at
invariant-loop-at l = l.opened ≤ l.at
