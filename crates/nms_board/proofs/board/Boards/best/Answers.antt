-- `Boards::best`: its clauses, by `best_kept`, `held_there`, `found_is` and `held_parts`.
use Rattle.std.proofs.Common.{◌≡◌, ◌<◌, [], length, get_or, Some, slice_get, sym, ap, subst, refl, ◌∙◌, arith}
use Rattle.std.proofs.lemmas.Option.{slice_get-get_or, slice_get_read}
use Rattle.nms_board.specs.Bests.{best_on}
use Rattle.nms_board.specs.Carried.{orders_of}
use Rattle.nms_board.specs.Cells.{Board, IsBoard}
use Rattle.nms_board.specs.Ranking.{ranked_at}
use Rattle.nms_board.specs.Shown.{rows_held}
use Rattle.nms_board.specs.declared.row.Row.{Row}
use Rattle.nms_board.specs.declared.symbol_best.SymbolBest.{SymbolBest}
use Rattle.nms_board.proofs.BestLemmas.{best_kept}
use Rattle.nms_board.proofs.KeptLemmas.{held_there}
use Rattle.nms_board.proofs.ListLemmas.{found_is}
use Rattle.nms_board.proofs.PartLemmas.{held_parts}
use Rattle.nms_board.proofs.board.Boards.best.Goals as goal

pub returns-clause-best : goal.returns-clause-best
returns-clause-best c =
    let board : Board = record {
      sizes = record { parts = c.self.inside.parts; lots = c.self.inside.opening.items };
      lots = c.self.inside.lots.items;
      cells = c.self.inside.cells.items;
      applied = c.self.inside.applied;
    } in
    let ranks = c.self.inside.ranks.items in
    let bests = c.self.inside.bests.items in
    let best : SymbolBest = c.index.result.now in
    let in_syms : c.args.sym < length board.sizes.lots =
    subst (λ (b : Board). c.args.sym < length b.sizes.lots) (sym c.self.view_is) c.requires in
    let below : c.args.sym < length board.lots = omega (arith, in_syms, c.self.invariant.0.shape.lots) in
    let there : slice_get bests c.args.sym ≡ Some best =
    slice_get_read bests (length bests) c.args.sym best refl (omega (arith, c.self.invariant.2.symbols, below))
    (c.index.ensures ∙ ap (λ n. get_or bests n best) (c.from.ensures ∙ c.get.ensures.place)) in
    c.on.ensures
    ∙ subst (λ (b : Board). best_on c.args.side best ≡ ranked_at c.args.side (rows_held b c.args.sym c.args.side) 0) c.self.view_is
    (best_kept board ranks bests c.args.sym c.args.side _ best c.self.invariant.0 c.self.invariant.1 c.self.invariant.2 below
    (slice_get-get_or ranks c.args.sym (orders_of [] []) (omega (arith, c.self.invariant.1.symbols, below))) there)

pub returns-clause-there : goal.returns-clause-there
returns-clause-there c =
    rw (returns-clause-best c)
    (held_there c.args.self.now c.args.sym c.args.side 0 (subst IsBoard c.self.view_is c.self.invariant.0))

pub returns-clause-part : goal.returns-clause-part
returns-clause-part c =
    rw (returns-clause-best c)
    (found_is (λ (row : Row). row.part < c.args.self.now.sizes.parts) _ (rows_held c.args.self.now c.args.sym c.args.side)
    (held_parts c.args.self.now c.args.sym c.args.side))
