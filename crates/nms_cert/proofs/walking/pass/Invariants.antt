-- `pass`: what holds in each turn of its loop.
use Rattle.std.proofs.Common.{◌≡◌, ◌≤◌, ◌+◌, ◌*◌, length}
use Rattle.nms_rules.specs.declared.TheConstants.{MOST_SIZE}
use Rattle.nms_cert.specs.Walk.{behind, past}
use Rattle.nms_cert.proofs.walking.pass.Given as goal

-- what is still to pass gives what all of it does
abbrev pub invariant-loop-row : goal.invariant-loop-row
invariant-loop-row l = record {
  passed : past l.price l.fn.passed l.fn.rows ≡ past l.price l.passed l.later;
  behind : behind l.price l.fn.rows ≡ behind l.price l.later;
  shown : l.passed.shown + length l.later * MOST_SIZE ≤ l.fn.passed.shown + length l.fn.rows * MOST_SIZE;
  swept : l.passed.swept ≤ l.passed.shown;
}

abbrev pub decreases-loop-row : goal.decreases-loop-row
decreases-loop-row l = length l.later
