-- `sent_to`: the sum of a few numbers of shares fits.
use Rattle.std.proofs.Common.{◌≤◌, ◌*◌}
use Rattle.nms_verdicts.proofs.rows.sent_to.Given as goal

-- each leg adds fewer than 2^32 shares
abbrev pub invariant-loop-leg : goal.invariant-loop-leg
invariant-loop-leg l = l.sent ≤ l.leg-index * 4294967296
