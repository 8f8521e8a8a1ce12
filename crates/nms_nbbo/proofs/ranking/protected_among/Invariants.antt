-- `protected_among`: what holds in each turn of its loop.
use Rattle.std.proofs.Common.{◌≡◌, ◌≤◌, length, take}
use Rattle.nms_board.specs.Ranking.{protected_among}
use Rattle.nms_nbbo.proofs.ranking.protected_among.Given as goal

abbrev pub invariant-loop-row : goal.invariant-loop-row
invariant-loop-row l = (l.kept.items ≡ protected_among (take l.row-index l.rows)) × (length l.kept.items ≤ l.row-index)
