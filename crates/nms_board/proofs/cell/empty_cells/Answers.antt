-- `empty_cells`: the turns of its loop.
use Rattle.std.proofs.Common.{◌≡◌, ◌+◌, ◌*◌, ◌++◌, replicate, ◌∙◌, ap, arith}
use Rattle.std.proofs.lemmas.List.{replicate-append-replicate}
use Rattle.nms_board.specs.Cells.{empty_cell}
use Rattle.nms_board.proofs.cell.empty_cells.Goals as goal

pub loop-preserved : goal.loop-preserved
loop-preserved c =
    let one_more : replicate (32 * c.loop.counter) empty_cell ++ replicate 32 empty_cell
    ≡ replicate (32 * (c.loop.counter + 1)) empty_cell =
    replicate-append-replicate (32 * c.loop.counter) 32 empty_cell ∙ ap (λ n. replicate n empty_cell) (omega arith) in
    c.in_ok-extend_from_slice.ensures.items ∙ rw (c.loop.invariant, c.empty-of_symbol.ensures) one_more
