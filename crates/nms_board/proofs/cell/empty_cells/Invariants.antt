-- `empty_cells`: what holds in each turn of its loop.
use Rattle.std.proofs.Common.{◌≡◌, ◌*◌, replicate}
use Rattle.nms_board.specs.Cells.{empty_cell}
use Rattle.nms_board.proofs.cell.empty_cells.Given as goal

-- the cells of the symbols so far
abbrev pub invariant-loop : goal.invariant-loop
invariant-loop l = l.cells.items ≡ replicate (32 * l.counter) empty_cell
