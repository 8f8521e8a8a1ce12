-- `Boards::clear`: the lists have their lengths as before, and hold what those of a new board do.
use Rattle.std.proofs.Common.{◌≡◌, ℕ, ◌*◌, ◌++◌, [], List, ap, arith, drop, length, refl, replicate, take, ◌∙◌}
use Rattle.std.proofs.lemmas.List.{length-replicate, take-append-le, take_all}
use Rattle.nms_quote.specs.Roster.{Sizes}
use Rattle.nms_board.specs.Cells.{empty_cell}
use Rattle.nms_board.proofs.BestLemmas.{bests_opening}
use Rattle.nms_board.proofs.BoardLemmas.{stands_opening}
use Rattle.nms_board.proofs.KeptLemmas.{ranks_opening}
use Rattle.nms_board.proofs.board.Boards.clear.Goals as goal

-- what is written over all of a list is the list
written_over : {X : Type 0} (n : ℕ) (written was : List X) → length written ≡ n → take n (written ++ drop (length written) was) ≡ written
written_over n written was same =
    take-append-le n written (drop (length written) was) (omega (arith, same)) ∙ take_all n written (omega (arith, same))

pub invariant_of-self : goal.invariant_of-self
invariant_of-self c =
    let board = c.self.inside in
    let sizes : Sizes = record { parts = board.parts; lots = board.opening.items } in
    let shape = c.self.invariant.0.shape in
    let lots : c.copy_from_slice.new.self.items ≡ board.opening.items = c.copy_from_slice.ensures.items ∙ c.deref.ensures.value in
    let cells_len : length c.clear_cells.new.cells ≡ board.cells.len =
    ap length c.clear_cells.ensures ∙ length-replicate (length c.deref_mut.result.now) empty_cell ∙ c.deref_mut.ensures.len in
    let cells : c.clear_cells.new.cells ≡ replicate (32 * length board.opening.items) empty_cell =
    c.clear_cells.ensures ∙ ap (λ (n : ℕ). replicate n empty_cell) (ap length c.deref_mut.ensures.value ∙ shape.cells) in
    let ranks_len : length c.clear_ranks.new.ranks ≡ board.ranks.len = c.clear_ranks.ensures.len ∙ c.deref_mut-2.ensures.len in
    let bests_len : length c.clear_bests.new.bests ≡ board.bests.len = c.clear_bests.ensures.len ∙ c.deref_mut-3.ensures.len in
    let ranks_each : length c.clear_ranks.new.ranks ≡ length board.opening.items =
    c.clear_ranks.ensures.len ∙ ap length c.deref_mut-2.ensures.value ∙ c.self.invariant.1.symbols ∙ shape.lots in
    let bests_each : length c.clear_bests.new.bests ≡ length board.opening.items =
    c.clear_bests.ensures.len ∙ ap length c.deref_mut-3.ensures.value ∙ c.self.invariant.2.symbols ∙ shape.lots in
    rw (
      lots,
      written_over board.cells.len c.clear_cells.new.cells board.cells.items cells_len,
      written_over board.ranks.len c.clear_ranks.new.ranks board.ranks.items ranks_len,
      written_over board.bests.len c.clear_bests.new.bests board.bests.items bests_len,
      cells,
    ) (
      record {
        shape = record {
          parts = shape.parts;
          syms = shape.syms;
          lots = refl;
          cells = length-replicate (32 * length board.opening.items) empty_cell;
          applied = omega arith;
        };
        tape = [];
        stands = stands_opening sizes shape.parts;
      },
      ranks_opening sizes c.clear_ranks.new.ranks shape.parts ranks_each c.clear_ranks.ensures.empty,
      bests_opening sizes _ c.clear_ranks.new.ranks c.clear_bests.new.bests bests_each c.clear_ranks.ensures.empty c.clear_bests.ensures.empty,
    )
