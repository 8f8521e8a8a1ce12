-- `Boards::orders_of`: all that it promises, by `carried_from`.
use Rattle.std.proofs.Common.{◌≡◌, ◌<◌, length, get_or, Some, slice_get, sym, ap, subst, refl, ◌∙◌, arith}
use Rattle.std.proofs.lemmas.Option.{slice_get_read}
use Rattle.nms_quote.specs.declared.side_quote.Side.TheVariants.{Bid, Offer}
use Rattle.nms_board.specs.Carried.{AreCarried}
use Rattle.nms_board.specs.Cells.{Board}
use Rattle.nms_board.specs.Shown.{rows_held}
use Rattle.nms_board.specs.declared.symbol_ranks.SymbolRanks.{SymbolRanks}
use Rattle.nms_board.proofs.CarriedLemmas.{carried_from}
use Rattle.nms_board.proofs.board.Boards.orders_of.Goals as goal

pub returns : goal.returns
returns c =
    let board : Board = record {
      sizes = record { parts = c.self.inside.parts; lots = c.self.inside.opening.items };
      lots = c.self.inside.lots.items;
      cells = c.self.inside.cells.items;
      applied = c.self.inside.applied;
    } in
    let orders : SymbolRanks = c.index.result.now in
    let ranks = c.self.inside.ranks.items in
    let in_syms : c.args.sym < length board.sizes.lots =
    subst (λ (b : Board). c.args.sym < length b.sizes.lots) (sym c.self.view_is) c.requires in
    let below : c.args.sym < length board.lots = omega (arith, in_syms, c.self.invariant.0.shape.lots) in
    let there : slice_get ranks c.args.sym ≡ Some orders =
    slice_get_read ranks (length ranks) c.args.sym orders refl (omega (arith, c.self.invariant.1.symbols, below))
    (c.index.ensures ∙ ap (λ n. get_or ranks n orders) (c.from.ensures ∙ c.get.ensures.place)) in
    subst (λ (b : Board). AreCarried (rows_held b c.args.sym Bid) (rows_held b c.args.sym Offer) orders) c.self.view_is
    (carried_from board ranks c.args.sym orders c.self.invariant.0 c.self.invariant.1 below there)
