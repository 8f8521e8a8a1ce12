-- `characters_in`: no more were counted than bytes were looked at.
use Rattle.std.proofs.Common.{◌≤◌}
use Rattle.nms_show.proofs.columns.characters_in.Given as goal

abbrev pub invariant-loop-byte : goal.invariant-loop-byte
invariant-loop-byte l = l.count ≤ l.byte-index
