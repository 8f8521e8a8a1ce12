-- `take_all`: what holds in each turn of its loop.
use Rattle.std.proofs.Common.{ℕ, ◌≡◌, ◌+◌, ◌≤◌, ◌++◌, List, drop}
use Rattle.nms_whole.specs.Held.{still, weight}
use Rattle.nms_whole.specs.declared.TheConstants.{MOST_LINE}
use Rattle.nms_whole.proofs.held.Held.take_all.Given as goal

-- the bytes that are left make of what is held now what all of them make of what was held
abbrev pub invariant-loop-byte : goal.invariant-loop-byte
invariant-loop-byte l = record {
  weight : weight l.self ≤ MOST_LINE + 1 + l.byte-index;
  same : (rest : List ℕ) → still l.self (drop l.byte-index l.bytes ++ rest) ≡ still l.fn.self (l.bytes ++ rest);
}
