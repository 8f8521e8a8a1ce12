-- `sum_of`: what holds in each turn of its loop.
use Rattle.std.proofs.Common.{◌≡◌, take}
use Rattle.std.specs.List.{sum}
use Rattle.nms_import.proofs.tally.sum_of.Given as goal

-- the numbers so far were added
abbrev pub invariant-loop-number : goal.invariant-loop-number
invariant-loop-number l = l.total ≡ sum (take l.number-index l.numbers)
