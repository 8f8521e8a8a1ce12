-- `add_quotations`: each turn lists the quotation at its place, by `listed_turn`.
use Rattle.std.proofs.Common.{◌≡◌, ◌+◌, ◌-◌, ◌++◌, ◌∷◌, [], List, Some, ap, map, sym, ◌∙◌}
use Rattle.std.specs.List.{filter_map, range_with_len}
use Rattle.std.proofs.lemmas.List.{map-append}
use Rattle.nms_quote.specs.declared.plan.Plan.{Plan}
use Rattle.nms_quote.specs.declared.side_quote.Side.{Side}
use Rattle.nms_board.specs.Ranking.{ranked_at}
use Rattle.nms_board.specs.View.{rows_on}
use Rattle.nms_board.specs.declared.row.Row.{Row}
use Rattle.nms_rules.specs.Usable.{contra, contra_rows}
use Rattle.nms_verdicts.specs.Listed.{listed_on}
use Rattle.nms_verdicts.specs.declared.plan_report.Quotation.{Quotation}
use Rattle.nms_verdicts.proofs.ListedLemmas.{listed_turn}
use Rattle.nms_verdicts.proofs.plan_report.add_quotations.Goals as goal

pub loop-place-preserved : goal.loop-place-preserved
loop-place-preserved c =
    let seen = c.args.view.now in
    let side = c.args.plan.now.order.side in
    let place = c.loop-place.place in
    let end = c.count-place-end.result in
    let row = c.unwrap-row.result in
    let old = c.loop-place.quotations.items in
    let f = ranked_at (contra side) (contra_rows side seen) in
    let own : contra side ≡ c.contra-side.result =
    sym (c.contra-side.ensures ∙ ap (λ (plan : Plan). contra plan.order.side) c.plan.view_is) in
    let at : f place ≡ Some row =
    ap (λ (s : Side). ranked_at s (rows_on s seen) place) own ∙ sym c.ranked.ensures.ranked ∙ c.unwrap-row.ensures in
    let listed = map (λ (quotation : Quotation). quotation.row) in
    let added : listed c.push.new.self.items ≡ listed old ++ row ∷ [] =
    ap listed c.in-Ok.ensures.items ∙ map-append (λ (quotation : Quotation). quotation.row) old (c.quotation_of.result ∷ [])
    ∙ ap (λ (one : Row). listed old ++ one ∷ []) c.quotation_of.ensures in
    ap (λ (rows : List Row). rows ++ filter_map f (range_with_len (place + 1) (end - (place + 1)))) added
    ∙ listed_turn (listed old) (listed_on seen c.args.plan.now) f place end row c.loop-place-test.true at c.loop-place.invariant
