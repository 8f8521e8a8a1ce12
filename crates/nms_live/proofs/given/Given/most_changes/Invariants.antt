-- `most_changes`: the count stays within the tape's limit.
use Rattle.std.proofs.Common.{◌≤◌}
use Rattle.nms_live.proofs.given.Given.most_changes.Given as goal

abbrev pub invariant-loop-text : goal.invariant-loop-text
invariant-loop-text l = l.records ≤ l.most
