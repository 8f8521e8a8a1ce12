-- `replaced`: what holds in each turn of its loop.
use Rattle.std.proofs.Common.{◌≡◌, drop}
use Rattle.nms_import.specs.Mapping.{replaced}
use Rattle.nms_import.proofs.row.replaced.Given as goal

-- the byte that replaces it is found among the pairs that are left
abbrev pub invariant-loop-pair : goal.invariant-loop-pair
invariant-loop-pair l = replaced (drop l.pair-index l.pairs) l.c ≡ replaced l.pairs l.c
