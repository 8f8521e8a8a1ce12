-- `listed_lengths`: what holds in each turn of its loop.
use Rattle.std.proofs.Common.{ℕ, ◌≤◌, List, length}
use Rattle.nms_serving.specs.Resuming.{AreListed}
use Rattle.nms_serving.proofs.ResumeFacts.{AreStill}
use Rattle.nms_serving.proofs.resuming.listed_lengths.Given as goal

-- if the text is of lengths, the rest is of those after the last one that was read
abbrev pub invariant-loop-end : goal.invariant-loop-end
invariant-loop-end l = record {
  still : (lengths : List ℕ) (published : ℕ) (torn : List ℕ) → AreListed lengths published torn l.fn.listed
      → AreStill published torn l.length l.rest;
  within : length l.rest ≤ length l.fn.listed;
}

abbrev pub decreases-loop-end : goal.decreases-loop-end
decreases-loop-end l = length l.rest
