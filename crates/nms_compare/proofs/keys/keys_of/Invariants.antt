-- `keys_of`: what holds in each turn of its loop.
use Rattle.std.proofs.Common.{◌≡◌, length}
use Rattle.nms_compare.proofs.keys.keys_of.Given as goal

-- a key for each change so far
abbrev pub invariant-loop-change : goal.invariant-loop-change
invariant-loop-change l = length l.keys.items ≡ l.change-index
