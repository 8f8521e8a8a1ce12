-- `Boards::fill`: what it ensures, and the invariant of the view, by `rows_held_unlisted` and `rows_held_are_rows`.
use Rattle.std.proofs.Common.{◌≡◌, slice_get, None, ◌∙◌, sym, subst, refl}
use Rattle.nms_quote.specs.declared.side_quote.Side.TheVariants.{Bid, Offer}
use Rattle.nms_board.specs.Cells.{IsBoard}
use Rattle.nms_board.proofs.BoardLemmas.{rows_held_unlisted}
use Rattle.nms_board.proofs.RowLemmas.{rows_held_are_rows}
use Rattle.nms_board.proofs.board.Boards.fill.Goals as goal

pub invariant_of-view : goal.invariant_of-view
invariant_of-view c =
    let is : IsBoard c.args.self.now = subst IsBoard c.self.view_is c.self.invariant.0 in
    rw (c.show.ensures.bids, c.show.ensures.offers) (
      rows_held_are_rows c.args.self.now c.args.sym Bid is,
      rows_held_are_rows c.args.self.now c.args.sym Offer is,
      rw c.copied-view-inside.ensures c.orders_of.ensures,
    )

pub returns-in_default : goal.returns-in_default
returns-in_default c =
    let unlisted : slice_get c.args.self.now.lots c.args.sym ≡ None = sym c.lot_of.ensures ∙ c.in_default.is in
    rw (
      c.requires,
      rows_held_unlisted c.args.self.now c.args.sym Bid unlisted,
      rows_held_unlisted c.args.self.now c.args.sym Offer unlisted,
    ) refl
