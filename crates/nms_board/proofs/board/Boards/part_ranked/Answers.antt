-- `Boards::part_ranked`: all that it promises, by `held_there`, `kept_below` and `ranked_kept`.
use Rattle.std.proofs.Common.{◌≡◌, ◌<◌, length, get_or, Some, None, slice_get, sym, ap, subst, refl, ◌∙◌, arith}
use Rattle.std.specs.Option.{option_and_then}
use Rattle.std.proofs.lemmas.Grind.{common_steps}
use Rattle.std.proofs.lemmas.Option.{slice_get_read}
use Rattle.nms_board.specs.Cells.{Board, IsBoard}
use Rattle.nms_board.specs.Kept.{order_on}
use Rattle.nms_board.specs.Ranking.{ranked_at}
use Rattle.nms_board.specs.Shown.{row_held, rows_held}
use Rattle.nms_board.specs.declared.symbol_ranks.SymbolRanks.{SymbolRanks}
use Rattle.nms_board.proofs.KeptLemmas.{held_there, kept_below, ranked_kept}
use Rattle.nms_board.proofs.board.Boards.part_ranked.Goals as goal

pub returns-in-Some : goal.returns-in-Some
returns-in-Some c =
    let board : Board = record {
      sizes = record { parts = c.self.inside.parts; lots = c.self.inside.opening.items };
      lots = c.self.inside.lots.items;
      cells = c.self.inside.cells.items;
      applied = c.self.inside.applied;
    } in
    let orders : SymbolRanks = c.index-orders.result.now in
    let ranks = c.self.inside.ranks.items in
    let in_syms : c.args.sym < length board.sizes.lots =
    subst (λ (b : Board). c.args.sym < length b.sizes.lots) (sym c.self.view_is) c.requires in
    let below : c.args.sym < length board.lots = omega (arith, in_syms, c.self.invariant.0.shape.lots) in
    let there : slice_get ranks c.args.sym ≡ Some orders =
    slice_get_read ranks (length ranks) c.args.sym orders refl (omega (arith, c.self.invariant.1.symbols, below))
    (c.index-orders.ensures ∙ ap (λ n. get_or ranks n orders) (c.from.ensures ∙ c.get.ensures.place)) in
    let place_is : slice_get (order_on c.args.side orders).places c.args.at ≡ Some c.in-Some.place = sym c.place.ensures ∙ c.in-Some.is in
    let low = kept_below board ranks c.args.sym c.args.side orders c.args.at c.in-Some.place c.self.invariant.0 c.self.invariant.1 below
    there place_is in
    let few : c.in-Some.place < 32 = omega (arith, low, c.self.invariant.0.shape.parts) in
    let new : c.new.result ≡ Some c.in-Some.place = grind (arith, common_steps) in
    record {
      ranked = subst (λ (b : Board). ranked_at c.args.side (rows_held b c.args.sym c.args.side) c.args.at
          ≡ option_and_then (row_held b c.args.sym c.args.side) c.new.result) c.self.view_is
          (ranked_kept board ranks c.args.sym c.args.side orders c.args.at c.self.invariant.0 c.self.invariant.1 below there
          ∙ ap (option_and_then (row_held board c.args.sym c.args.side)) (place_is ∙ sym new));
      there = held_there c.args.self.now c.args.sym c.args.side c.args.at (subst IsBoard c.self.view_is c.self.invariant.0);
      within = rw new (subst (λ (b : Board). c.in-Some.place < b.sizes.parts) c.self.view_is low);
    }

pub returns-in-None : goal.returns-in-None
returns-in-None c =
    let board : Board = record {
      sizes = record { parts = c.self.inside.parts; lots = c.self.inside.opening.items };
      lots = c.self.inside.lots.items;
      cells = c.self.inside.cells.items;
      applied = c.self.inside.applied;
    } in
    let orders : SymbolRanks = c.index-orders.result.now in
    let ranks = c.self.inside.ranks.items in
    let in_syms : c.args.sym < length board.sizes.lots =
    subst (λ (b : Board). c.args.sym < length b.sizes.lots) (sym c.self.view_is) c.requires in
    let below : c.args.sym < length board.lots = omega (arith, in_syms, c.self.invariant.0.shape.lots) in
    let there : slice_get ranks c.args.sym ≡ Some orders =
    slice_get_read ranks (length ranks) c.args.sym orders refl (omega (arith, c.self.invariant.1.symbols, below))
    (c.index-orders.ensures ∙ ap (λ n. get_or ranks n orders) (c.from.ensures ∙ c.get.ensures.place)) in
    record {
      ranked = subst (λ (b : Board). ranked_at c.args.side (rows_held b c.args.sym c.args.side) c.args.at ≡ None) c.self.view_is
          (ranked_kept board ranks c.args.sym c.args.side orders c.args.at c.self.invariant.0 c.self.invariant.1 below there
          ∙ ap (option_and_then (row_held board c.args.sym c.args.side)) (sym c.place.ensures ∙ c.in-None.is));
      there = held_there c.args.self.now c.args.sym c.args.side c.args.at (subst IsBoard c.self.view_is c.self.invariant.0);
      within = tt;
    }
