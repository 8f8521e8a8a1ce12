-- `alter`: what it asks of `settle` and `follow`, and its clauses, by `altered_is`, `ranks_altered` and `bests_altered`.
use Rattle.std.proofs.Common.{◌≡◌, ℕ, ◌+◌, ◌*◌, Option, get_or, refl, sym, ap, subst, ◌∙◌, arith}
use Rattle.std.proofs.lemmas.Grind.{common_steps}
use Rattle.std.proofs.lemmas.Option.{slice_get-get_or}
use Rattle.nms_quote.specs.Roster.{Sizes}
use Rattle.nms_board.specs.Cells.{altered, place_of}
use Rattle.nms_board.specs.Bests.{best_on, first_row}
use Rattle.nms_board.specs.Kept.{order_on}
use Rattle.nms_board.specs.Ranks.{AreOwn, IsKept, row_among}
use Rattle.nms_board.specs.declared.row.Row.{Row}
use Rattle.nms_board.proofs.BestLemmas.{bests_altered, first_stays, nobody_among}
use Rattle.nms_board.proofs.BoardLemmas.{change_cell_written, length-change_cell}
use Rattle.nms_board.proofs.KeptLemmas.{IsCellOf, altered_is, ranks_altered}
use Rattle.nms_board.proofs.board.alter.Goals as goal

pub settle-requires-clause-was : goal.settle-requires-clause-was
settle-requires-clause-was c = λ side.
    let sizes : Sizes = record { parts = c.args.parts; lots = c.args.lots.now } in
    let of : IsCellOf sizes c.args.cells.now c.args.part c.args.sym = record {
      narrow = c.requires.parts;
      room =
          c.requires.room;
      in_parts = c.requires.part;
      in_syms = c.requires.sym;
    } in
    let known = altered_is sizes c.args.cells.now c.args.part c.args.sym (32 * c.args.sym + c.from.result)
    (altered c.args.number c.args.change.now) c.index-lots-sym.result c.index-cells-sym.result _ c.alter.new.self
    c.symbol_cells-shown.result.now of
    (omega arith) c.index-cells-sym.is c.index-lots-sym.is refl c.alter.ensures c.symbol_cells-shown.ensures in
    subst AreOwn (sym (known.before side)) (c.requires.ranks.own c.args.sym side c.requires.sym)

pub settle-requires-clause-is : goal.settle-requires-clause-is
settle-requires-clause-is c = λ side.
    let sizes : Sizes = record { parts = c.args.parts; lots = c.args.lots.now } in
    let of : IsCellOf sizes c.args.cells.now c.args.part c.args.sym = record {
      narrow = c.requires.parts;
      room =
          c.requires.room;
      in_parts = c.requires.part;
      in_syms = c.requires.sym;
    } in
    let known = altered_is sizes c.args.cells.now c.args.part c.args.sym (32 * c.args.sym + c.from.result)
    (altered c.args.number c.args.change.now) c.index-lots-sym.result c.index-cells-sym.result _ c.alter.new.self
    c.symbol_cells-shown.result.now of
    (omega arith) c.index-cells-sym.is c.index-lots-sym.is refl c.alter.ensures c.symbol_cells-shown.ensures in
    subst AreOwn (sym (known.is side)) (c.requires.own side)

pub settle-requires-clause-kept : goal.settle-requires-clause-kept
settle-requires-clause-kept c = λ side.
    let sizes : Sizes = record { parts = c.args.parts; lots = c.args.lots.now } in
    let of : IsCellOf sizes c.args.cells.now c.args.part c.args.sym = record {
      narrow = c.requires.parts;
      room =
          c.requires.room;
      in_parts = c.requires.part;
      in_syms = c.requires.sym;
    } in
    let known = altered_is sizes c.args.cells.now c.args.part c.args.sym (32 * c.args.sym + c.from.result)
    (altered c.args.number c.args.change.now) c.index-lots-sym.result c.index-cells-sym.result _ c.alter.new.self
    c.symbol_cells-shown.result.now of
    (omega arith) c.index-cells-sym.is c.index-lots-sym.is refl c.alter.ensures c.symbol_cells-shown.ensures in
    rw known.long
    (subst (λ (g : ℕ → Option Row). IsKept side g c.args.parts (order_on side
    (get_or c.args.ranks.now c.args.sym c.index-ranks-sym.result))) (sym (known.before side))
    (c.requires.ranks.kept c.args.sym (get_or c.args.ranks.now c.args.sym c.index-ranks-sym.result) side
    (slice_get-get_or c.args.ranks.now c.args.sym c.index-ranks-sym.result (omega (arith, c.requires.ranks.symbols, c.requires.sym)))))

pub follow-requires-clause-others : goal.follow-requires-clause-others
follow-requires-clause-others c = λ side.
    let sizes : Sizes = record { parts = c.args.parts; lots = c.args.lots.now } in
    let of : IsCellOf sizes c.args.cells.now c.args.part c.args.sym = record {
      narrow = c.requires.parts;
      room =
          c.requires.room;
      in_parts = c.requires.part;
      in_syms = c.requires.sym;
    } in
    let known = altered_is sizes c.args.cells.now c.args.part c.args.sym (32 * c.args.sym + c.from.result)
    (altered c.args.number c.args.change.now) c.index-lots-sym.result c.index-cells-sym.result _ c.alter.new.self
    c.symbol_cells-shown.result.now of
    (omega arith) c.index-cells-sym.is c.index-lots-sym.is refl c.alter.ensures c.symbol_cells-shown.ensures in
    let orders = get_or c.args.ranks.now c.args.sym c.index-ranks-sym.result in
    let best = get_or c.args.bests.now c.args.sym c.index-bests-sym.result in
    rw (c.firsts-firsts.ensures side)
    (first_stays c.args.part _ _ _ (order_on side orders) (best_on side best) (known.before side)
    (nobody_among c.index-lots-sym.result c.symbol_cells-shown.result.now side (omega (arith, known.long, c.requires.parts)))
    (c.requires.bests.first c.args.sym orders best side
    (slice_get-get_or c.args.ranks.now c.args.sym c.index-ranks-sym.result (omega (arith, c.requires.ranks.symbols, c.requires.sym)))
    (slice_get-get_or c.args.bests.now c.args.sym c.index-bests-sym.result (omega (arith, c.requires.bests.symbols, c.requires.sym)))))

pub returns-clause-cells : goal.returns-clause-cells
returns-clause-cells c =
    change_cell_written c.args.cells.now (32 * c.args.sym + c.from.result) (place_of c.args.part c.args.sym)
    (altered c.args.number c.args.change.now) c.index-cells-sym.result c.alter.new.self
    (omega arith) (omega (arith, c.requires.room, c.requires.sym, c.requires.part, c.requires.parts)) c.index-cells-sym.is
    (c.alter.ensures ∙ ap (altered c.args.number c.args.change.now) (sym c.index-cells-sym.is))

pub returns-clause-ranks : goal.returns-clause-ranks
returns-clause-ranks c =
    let sizes : Sizes = record { parts = c.args.parts; lots = c.args.lots.now } in
    let of : IsCellOf sizes c.args.cells.now c.args.part c.args.sym = record {
      narrow = c.requires.parts;
      room =
          c.requires.room;
      in_parts = c.requires.part;
      in_syms = c.requires.sym;
    } in
    let known = altered_is sizes c.args.cells.now c.args.part c.args.sym (32 * c.args.sym + c.from.result)
    (altered c.args.number c.args.change.now) c.index-lots-sym.result c.index-cells-sym.result _ c.alter.new.self
    c.symbol_cells-shown.result.now of
    (omega arith) c.index-cells-sym.is c.index-lots-sym.is refl c.alter.ensures c.symbol_cells-shown.ensures in
    rw (returns-clause-cells c)
    (ranks_altered sizes c.args.cells.now c.args.ranks.now c.args.part c.args.sym
    (altered c.args.number c.args.change.now) c.settle.new.self of
    (length-change_cell c.args.cells.now (place_of c.args.part c.args.sym)
    (altered c.args.number c.args.change.now)) c.requires.ranks c.requires.own
    (λ side. subst (λ (g : ℕ → Option Row). IsKept side g c.args.parts (order_on side c.settle.new.self)) (known.is side)
    (subst (λ (n : ℕ). IsKept side (row_among c.index-lots-sym.result c.symbol_cells-shown.result.now side) n
    (order_on side c.settle.new.self)) known.long (c.settle.ensures side))))

pub returns-clause-bests : goal.returns-clause-bests
returns-clause-bests c =
    let sizes : Sizes = record { parts = c.args.parts; lots = c.args.lots.now } in
    let of : IsCellOf sizes c.args.cells.now c.args.part c.args.sym = record {
      narrow = c.requires.parts;
      room =
          c.requires.room;
      in_parts = c.requires.part;
      in_syms = c.requires.sym;
    } in
    let known = altered_is sizes c.args.cells.now c.args.part c.args.sym (32 * c.args.sym + c.from.result)
    (altered c.args.number c.args.change.now) c.index-lots-sym.result c.index-cells-sym.result _ c.alter.new.self
    c.symbol_cells-shown.result.now of
    (omega arith) c.index-cells-sym.is c.index-lots-sym.is refl c.alter.ensures c.symbol_cells-shown.ensures in
    rw (returns-clause-cells c)
    (bests_altered sizes c.args.cells.now c.args.ranks.now c.args.bests.now c.args.part c.args.sym
    (altered c.args.number c.args.change.now) c.settle.new.self c.follow.new.self of
    (length-change_cell c.args.cells.now (place_of c.args.part c.args.sym)
    (altered c.args.number c.args.change.now)) c.requires.ranks.symbols c.requires.bests
    (λ side. subst (λ (g : ℕ → Option Row). best_on side c.follow.new.self ≡ first_row g (order_on side c.settle.new.self)) (known.is side)
    (c.follow.ensures side)))

-- ---- goals that `grind` closes; the search that is tried before it takes longer

pub symbol_cells-shown-requires : goal.symbol_cells-shown-requires
symbol_cells-shown-requires c = grind (arith, common_steps)

pub settle-requires-clause-parts : goal.settle-requires-clause-parts
settle-requires-clause-parts c = grind (arith, common_steps)

pub settle-requires-clause-part : goal.settle-requires-clause-part
settle-requires-clause-part c = grind (arith, common_steps)

pub follow-requires-clause-parts : goal.follow-requires-clause-parts
follow-requires-clause-parts c = grind (arith, common_steps)

pub bounds-ranks-sym : goal.bounds-ranks-sym
bounds-ranks-sym c = grind (arith, common_steps)
