-- `mark_of`: the mark is at `low` or later and before `high`.
use Rattle.std.proofs.Common.{◌<◌, ◌≤◌, ◌-◌, length}
use Rattle.nms_trades.specs.Track.{mark_at}
use Rattle.nms_trades.proofs.track.mark_of.Given as goal

abbrev pub invariant-loop-high : goal.invariant-loop-high
invariant-loop-high l = record {
  in_order : l.low < l.high;
  within : l.high ≤ length l.marks;
  at : (mark_at l.marks 0).version ≤ l.version → (mark_at l.marks l.low).version ≤ l.version;
  next : l.high < length l.marks → l.version < (mark_at l.marks l.high).version;
}

abbrev pub decreases-loop-high : goal.decreases-loop-high
decreases-loop-high l = l.high - l.low
