-- `exponent_of`: the exponent is at most the one that is tried now.
use Rattle.std.proofs.Common.{◌≡◌, ◌≤◌, ℕ}
use Rattle.nms_drawing.specs.Spelling.{column_at, exponent_within}
use Rattle.nms_drawing.proofs.spelling.exponent_of.Given as goal

abbrev pub invariant-loop-exponent : goal.invariant-loop-exponent
invariant-loop-exponent g l = record {
  within : l.exponent ≤ 9;
  least : exponent_within l.exponent (column_at l.place l.rows) ≡ exponent_within 9 (column_at l.place l.rows);
}

abbrev pub decreases-loop-exponent : goal.decreases-loop-exponent
decreases-loop-exponent g l = l.exponent
