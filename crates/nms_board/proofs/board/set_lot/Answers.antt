-- `set_lot`: clauses `ranks` and `bests` and the calls of `rank_anew` and `of`, by `ranks_relotted`, `bests_relotted` and
-- `shown_in`.
use Rattle.std.proofs.Common.{◌≡◌, ℕ, Option, length, sym, ap, subst, ◌∙◌, ◌+◌, ◌*◌, arith}
use Rattle.std.proofs.lemmas.Grind.{common_steps}
use Rattle.std.proofs.lemmas.List.Edits.{length-between}
use Rattle.nms_quote.specs.Roster.{Sizes}
use Rattle.nms_board.specs.Bests.{best_on, first_row}
use Rattle.nms_board.specs.Kept.{order_on}
use Rattle.nms_board.specs.Ranks.{AreOwn, IsKept, row_among}
use Rattle.nms_board.specs.declared.row.Row.{Row}
use Rattle.nms_board.proofs.BestLemmas.{bests_relotted}
use Rattle.nms_board.proofs.KeptLemmas.{ranks_relotted, shown_in}
use Rattle.nms_board.proofs.board.set_lot.Goals as goal

pub rank_anew-requires-clause-own : goal.rank_anew-requires-clause-own
rank_anew-requires-clause-own c =
    let sizes : Sizes = record { parts = c.args.parts; lots = c.args.lots.now } in
    λ side. subst AreOwn (shown_in sizes c.args.cells.now c.args.sym c.args.lot c.symbol_cells-shown.result.now side c.requires.sym
    c.symbol_cells-shown.ensures) (c.requires.own side)

pub returns-clause-ranks : goal.returns-clause-ranks
returns-clause-ranks c =
    let sizes : Sizes = record { parts = c.args.parts; lots = c.args.lots.now } in
    let long : length c.symbol_cells-shown.result.now ≡ c.args.parts =
    ap length c.symbol_cells-shown.ensures ∙ length-between c.args.cells.now (32 * c.args.sym) (32 * c.args.sym
    + c.args.parts) (omega (arith, c.requires.room, c.requires.sym, c.requires.parts)) ∙ omega arith in
    ranks_relotted sizes c.args.cells.now c.args.ranks.now c.args.sym c.args.lot c.rank_anew.new.self c.requires.sym c.requires.ranks
    c.requires.own
    (λ side. subst (λ (g : ℕ → Option Row). IsKept side g c.args.parts (order_on side c.rank_anew.new.self))
    (sym (shown_in sizes c.args.cells.now c.args.sym c.args.lot c.symbol_cells-shown.result.now side c.requires.sym
    c.symbol_cells-shown.ensures))
    (subst (λ (n : ℕ). IsKept side (row_among c.args.lot c.symbol_cells-shown.result.now side) n (order_on side c.rank_anew.new.self)) long
    (c.rank_anew.ensures side)))

pub returns-clause-bests : goal.returns-clause-bests
returns-clause-bests c =
    let sizes : Sizes = record { parts = c.args.parts; lots = c.args.lots.now } in
    bests_relotted sizes c.args.cells.now c.args.ranks.now c.args.bests.now c.args.sym c.args.lot c.rank_anew.new.self c.of.result
    c.requires.sym c.requires.ranks.symbols c.requires.bests
    (λ side. subst (λ (g : ℕ → Option Row). best_on side c.of.result ≡ first_row g (order_on side c.rank_anew.new.self))
    (sym (shown_in sizes c.args.cells.now c.args.sym c.args.lot c.symbol_cells-shown.result.now side c.requires.sym
    c.symbol_cells-shown.ensures))
    (c.of.ensures side))

-- ---- goals that `grind` closes; the search that is tried before it takes longer

pub of-requires : goal.of-requires
of-requires c = grind (arith, common_steps)

pub rank_anew-requires-clause-parts : goal.rank_anew-requires-clause-parts
rank_anew-requires-clause-parts c = grind (arith, common_steps)
