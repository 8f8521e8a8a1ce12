-- `line_feeds`: no more were counted than bytes were looked at.
use Rattle.std.proofs.Common.{◌≤◌}
use Rattle.nms_live.proofs.given.line_feeds.Given as goal

abbrev pub invariant-loop-byte : goal.invariant-loop-byte
invariant-loop-byte l = l.found ≤ l.byte-index
