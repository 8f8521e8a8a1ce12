-- `write_pieces`: what was written so far is printable, and each turn takes a byte or more.
use Rattle.std.proofs.Common.{length, ◌-◌, ◌≤◌}
use Rattle.nms_show.specs.Safe.{IsPrintable}
use Rattle.nms_show.specs.Written.{Adds}
use Rattle.nms_show.proofs.shown.write_pieces.Given as goal

abbrev pub invariant-loop-at : goal.invariant-loop-at
invariant-loop-at g l = record {
  within : l.at ≤ length l.bytes;
  written : Adds IsPrintable (g.W.Write.contents l.fn.answers) (g.W.Write.contents l.answers);
}

abbrev pub decreases-loop-at : goal.decreases-loop-at
decreases-loop-at g l = length l.bytes - l.at
