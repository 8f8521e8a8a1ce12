-- `are_walked`: what holds in each turn of its loop.
use Rattle.std.proofs.Common.{◌≡◌, ◌≤◌, ◌+◌, ◌*◌, ◌^◌, length}
use Rattle.nms_rules.specs.declared.TheConstants.{MOST_SIZE}
use Rattle.nms_cert.specs.Walk.{are_walked, none_passed}
use Rattle.nms_cert.proofs.walking.are_walked.Given as goal

-- what is still to go through decides what all of it does
abbrev pub invariant-loop-cut : goal.invariant-loop-cut
invariant-loop-cut l = record {
  same : are_walked l.side l.rows l.most l.cost none_passed l.rows l.fn.cuts
      ≡ are_walked l.side l.rows l.most l.cost l.passed l.later l.left;
  shown : l.passed.shown + length l.later * MOST_SIZE ≤ 2 ^ 37;
  swept : l.passed.swept ≤ l.passed.shown;
}

abbrev pub decreases-loop-cut : goal.decreases-loop-cut
decreases-loop-cut l = length l.left
