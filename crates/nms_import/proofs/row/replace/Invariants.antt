-- `replace`: what holds in each turn of its loop.
use Rattle.std.proofs.Common.{◌≡◌, map, take}
use Rattle.nms_import.specs.Mapping.{replaced}
use Rattle.nms_import.proofs.row.replace.Given as goal

-- the bytes so far were replaced
abbrev pub invariant-loop-c : goal.invariant-loop-c
invariant-loop-c l = l.out.items ≡ map (replaced l.pairs) (take l.c-index l.text)
