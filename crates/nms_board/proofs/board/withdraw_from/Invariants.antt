-- `withdraw_from`: what each turn keeps.
use Rattle.std.proofs.Common.{◌≡◌}
use Rattle.nms_board.specs.Bests.{AreBests}
use Rattle.nms_board.specs.Cells.{withdraw_from}
use Rattle.nms_board.specs.Kept.{AreRanks}
use Rattle.nms_board.proofs.board.withdraw_from.Given as goal

-- the cells of the symbols so far are withdrawn, and the orders and the best rows are those of the cells
abbrev pub invariant-loop-sym : goal.invariant-loop-sym
invariant-loop-sym l = record {
  cells : l.cells ≡ withdraw_from l.number l.part l.sym l.fn.cells;
  ranks : AreRanks (record { parts = l.parts; lots = l.lots }) l.cells l.ranks;
  bests : AreBests (record { parts = l.parts; lots = l.lots }) l.cells l.ranks l.bests;
}
