-- `lots_of`: what holds in each turn of its loop.
use Rattle.std.proofs.Common.{◌≡◌, take}
use Rattle.nms_quote.specs.Roster.{sizes_of}
use Rattle.nms_board.proofs.board.lots_of.Given as goal

-- the lots of the symbols so far
abbrev pub invariant-loop-place : goal.invariant-loop-place
invariant-loop-place l = l.lots.items ≡ take l.place (sizes_of l.roster).lots
