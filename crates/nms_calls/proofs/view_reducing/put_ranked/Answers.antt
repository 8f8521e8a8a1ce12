-- `put_ranked`: the rows in rank order are the ranked ones, by `ranked_from`; the first of them is the best.
use Rattle.std.proofs.Common.{◌≡◌, List, subst, sym, ap, ◌∙◌, slice_get}
use Rattle.nms_board.specs.Ranking.{ranked_at}
use Rattle.nms_board.specs.declared.row.Row.{Row}
use Rattle.nms_board.proofs.Offered.{order_of, ranked_at_is}
use Rattle.nms_calls.specs.ViewReduced.{AreInOrder}
use Rattle.nms_calls.proofs.OrderLemmas.{ranked_from}
use Rattle.nms_calls.proofs.view_reducing.put_ranked.Goals as goal

pub returns-clause-rows : goal.returns-clause-rows
returns-clause-rows c =
    ranked_from c.args.side c.args.rows.now c.in_rank_order-in_order.result.items c.put_order.new.out c.in_rank_order-in_order.ensures
    (subst (λ (items : List Row). AreInOrder items c.put_order.new.out) c.as_slice.ensures.value c.put_order.ensures)

pub returns-clause-best : goal.returns-clause-best
returns-clause-best c =
    let side = c.args.side in let rows : List Row = c.args.rows.now in
    let in_order : List Row = c.in_rank_order-in_order.result.items in
    let best : ranked_at side rows 0 ≡ slice_get in_order 0 =
    ranked_at_is side rows in_order 0 (order_of side rows in_order c.in_rank_order-in_order.ensures) in
    c.copied.ensures ∙ c.first.ensures.value ∙ ap (λ (items : List Row). slice_get items 0) c.as_slice-2.ensures.value ∙ sym best
