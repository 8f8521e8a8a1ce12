-- `repeats`: no name was there twice so far, and the table has these names.
use Rattle.std.proofs.Common.{◌≡◌, false, take}
use Rattle.nms_fees.specs.Places.{has_repeat}
use Rattle.nms_fees.proofs.NameLemmas.{names_of, texts}
use Rattle.nms_fees.proofs.repeat.repeats.Given as goal

-- the set has the names so far, and none is repeated
abbrev pub invariant-loop-row : goal.invariant-loop-row
invariant-loop-row l = record {
  seen : texts l.seen.keys ≡ names_of (take l.row-index l.rows);
  once : has_repeat (names_of (take l.row-index l.rows)) ≡ false;
}
