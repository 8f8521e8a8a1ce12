-- `fill`: there is room for what is sent.
use Rattle.std.proofs.Common.{◌≤◌, length}
use Rattle.nms_tests.proofs.feed.fill.Given as goal

abbrev pub invariant-loop-number : goal.invariant-loop-number
invariant-loop-number g l = length l.sender.sent ≤ l.number
