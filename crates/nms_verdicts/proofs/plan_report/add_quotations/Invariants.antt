-- `add_quotations`: the quotations so far and those that are left are all of them.
use Rattle.std.proofs.Common.{◌≡◌, ◌++◌, ◌-◌, map}
use Rattle.std.specs.List.{filter_map, range_with_len}
use Rattle.nms_board.specs.Ranking.{ranked_at}
use Rattle.nms_rules.specs.Usable.{contra, contra_rows}
use Rattle.nms_verdicts.specs.Listed.{listed_on}
use Rattle.nms_verdicts.proofs.plan_report.add_quotations.Given as goal

abbrev pub invariant-loop-place : goal.invariant-loop-place
invariant-loop-place l = map (λ quotation. quotation.row) l.quotations.items
    ++ filter_map (ranked_at (contra l.plan.order.side) (contra_rows l.plan.order.side l.view)) (range_with_len l.place (l.place-end - l.place))
    ≡ listed_on l.view l.plan
