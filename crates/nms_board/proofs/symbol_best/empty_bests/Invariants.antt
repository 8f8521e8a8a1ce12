-- `empty_bests`: what holds in each turn of its loop.
use Rattle.std.proofs.Common.{◌≡◌, All, length}
use Rattle.nms_board.specs.Bests.{HasNone}
use Rattle.nms_board.proofs.symbol_best.empty_bests.Given as goal

-- one for each symbol so far, each with no row
abbrev pub invariant-loop : goal.invariant-loop
invariant-loop l = record { symbols : length l.bests.items ≡ l.counter; empty : All HasNone l.bests.items }
