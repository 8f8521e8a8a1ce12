-- `Boards::show`: clauses `bids` and `offers`, the turns of its loop, the call of `unwrap` and the call of
-- `push_some`, by `IsWalk`, `walk_all`, `walk_long`, `walk_more`, `walk_of` and `walk_room`.
use Rattle.std.proofs.Common.{◌≡◌, ◌+◌, ◌<◌, get_or, length, refl, sym, ap, ◌∙◌, arith}
use Rattle.std.proofs.lemmas.Grind.{common_steps}
use Rattle.nms_quote.specs.declared.side_quote.Side.TheVariants.{Bid, Offer}
use Rattle.nms_board.proofs.RowLemmas.{IsWalk, walk_all, walk_long, walk_more, walk_of, walk_room}
use Rattle.nms_board.proofs.board.Boards.show.Goals as goal

pub loop-cell-init : goal.loop-cell-init
loop-cell-init c = record { place = refl; bids = c.requires.bids; offers = c.requires.offers }

pub unwrap-part-requires : goal.unwrap-part-requires
unwrap-part-requires c =
    let walk : IsWalk c.args.self.now c.args.sym c.args.lot c.symbol_cells-cell-items.result.now =
    walk_of _ c.args.self.now c.args.sym c.args.lot c.from.result c.deref.result.now c.symbol_cells-cell-items.result.now c.self.view_is
    c.self.invariant.0.shape c.requires.lot (c.from.ensures ∙ c.get.ensures.place) c.deref.ensures.value c.symbol_cells-cell-items.ensures
    in
    let long = walk_long c.args.self.now c.args.sym c.args.lot c.symbol_cells-cell-items.result.now walk in
    let few : c.loop-cell.place < 32 = omega (arith, c.loop-cell.invariant.place, c.loop-cell-test.true, long, walk.shape.parts) in
    grind (arith, common_steps)

pub push_some-requires : goal.push_some-requires
push_some-requires c =
    let walk : IsWalk c.args.self.now c.args.sym c.args.lot c.symbol_cells-cell-items.result.now =
    walk_of _ c.args.self.now c.args.sym c.args.lot c.from.result c.deref.result.now c.symbol_cells-cell-items.result.now c.self.view_is
    c.self.invariant.0.shape c.requires.lot (c.from.ensures ∙ c.get.ensures.place) c.deref.ensures.value c.symbol_cells-cell-items.ensures
    in
    walk_room c.args.self.now c.args.sym c.args.lot c.loop-cell.place c.symbol_cells-cell-items.result.now Bid c.loop-cell.bids.items walk
    (omega (arith, c.loop-cell.invariant.place, c.loop-cell-test.true)) c.loop-cell.invariant.bids

pub push_some-requires-in-loop-cell : goal.push_some-requires-in-loop-cell
push_some-requires-in-loop-cell c =
    let walk : IsWalk c.args.self.now c.args.sym c.args.lot c.symbol_cells-cell-items.result.now =
    walk_of _ c.args.self.now c.args.sym c.args.lot c.from.result c.deref.result.now c.symbol_cells-cell-items.result.now c.self.view_is
    c.self.invariant.0.shape c.requires.lot (c.from.ensures ∙ c.get.ensures.place) c.deref.ensures.value c.symbol_cells-cell-items.ensures
    in
    walk_room c.args.self.now c.args.sym c.args.lot c.loop-cell.place c.symbol_cells-cell-items.result.now Offer c.loop-cell.offers.items
    walk (omega (arith, c.loop-cell.invariant.place, c.loop-cell-test.true)) c.loop-cell.invariant.offers

pub loop-cell-preserved : goal.loop-cell-preserved
loop-cell-preserved c =
    let walk : IsWalk c.args.self.now c.args.sym c.args.lot c.symbol_cells-cell-items.result.now =
    walk_of _ c.args.self.now c.args.sym c.args.lot c.from.result c.deref.result.now c.symbol_cells-cell-items.result.now c.self.view_is
    c.self.invariant.0.shape c.requires.lot (c.from.ensures ∙ c.get.ensures.place) c.deref.ensures.value c.symbol_cells-cell-items.ensures
    in
    let below : c.loop-cell.place < length c.symbol_cells-cell-items.result.now =
    omega (arith, c.loop-cell.invariant.place, c.loop-cell-test.true) in
    let read = c.cell-item.is ∙ ap (λ n. get_or c.symbol_cells-cell-items.result.now n c.cell-item.result) (sym c.loop-cell.invariant.place)
    in
    let part : c.unwrap-part.result ≡ c.loop-cell.place = grind (arith, common_steps) in
    record {
      place = ap (λ n. n + 1) c.loop-cell.invariant.place;
      bids = c.push_some.ensures ∙ rw (c.row.ensures, part)
          (walk_more c.args.self.now c.args.sym c.args.lot c.loop-cell.place c.symbol_cells-cell-items.result.now Bid c.cell-item.result
          c.loop-cell.bids.items walk below read c.loop-cell.invariant.bids);
      offers = c.push_some-in-loop-cell.ensures
          ∙ rw (c.row-in-loop-cell.ensures, part)
          (walk_more c.args.self.now c.args.sym c.args.lot c.loop-cell.place c.symbol_cells-cell-items.result.now Offer c.cell-item.result
          c.loop-cell.offers.items walk below read c.loop-cell.invariant.offers);
    }

pub returns-clause-bids : goal.returns-clause-bids
returns-clause-bids c =
    let walk : IsWalk c.args.self.now c.args.sym c.args.lot c.symbol_cells-cell-items.result.now =
    walk_of _ c.args.self.now c.args.sym c.args.lot c.from.result c.deref.result.now c.symbol_cells-cell-items.result.now c.self.view_is
    c.self.invariant.0.shape c.requires.lot (c.from.ensures ∙ c.get.ensures.place) c.deref.ensures.value c.symbol_cells-cell-items.ensures
    in
    walk_all c.args.self.now c.args.sym c.args.lot c.loop-cell.place c.symbol_cells-cell-items.result.now Bid c.loop-cell.bids.items walk
    (omega (arith, c.loop-cell.invariant.place, c.loop-cell-test.false))
    (omega (arith, c.loop-cell.invariant.place, c.loop-cell.auto.cell-index-end)) c.loop-cell.invariant.bids

pub returns-clause-offers : goal.returns-clause-offers
returns-clause-offers c =
    let walk : IsWalk c.args.self.now c.args.sym c.args.lot c.symbol_cells-cell-items.result.now =
    walk_of _ c.args.self.now c.args.sym c.args.lot c.from.result c.deref.result.now c.symbol_cells-cell-items.result.now c.self.view_is
    c.self.invariant.0.shape c.requires.lot (c.from.ensures ∙ c.get.ensures.place) c.deref.ensures.value c.symbol_cells-cell-items.ensures
    in
    walk_all c.args.self.now c.args.sym c.args.lot c.loop-cell.place c.symbol_cells-cell-items.result.now Offer c.loop-cell.offers.items
    walk (omega (arith, c.loop-cell.invariant.place, c.loop-cell-test.false))
    (omega (arith, c.loop-cell.invariant.place, c.loop-cell.auto.cell-index-end)) c.loop-cell.invariant.offers

-- ---- goals that `grind` closes; the search that is tried before it takes longer

pub overflow_add-place : goal.overflow_add-place
overflow_add-place c = grind (arith, common_steps)
