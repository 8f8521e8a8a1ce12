-- `first_traded_through`: all that it promises and the turns of its loop, by `find-here` and `find-none_more`.
use Rattle.std.proofs.Common.{arith, ap, sym, ◌∙◌}
use Rattle.std.proofs.lemmas.Grind.{common_steps}
use Rattle.std.specs.List.{find}
use Rattle.nms_board.specs.View.{rows_on}
use Rattle.nms_quote.specs.Terms.{Terms}
use Rattle.nms_quote.specs.declared.side_quote.Side.{Side}
use Rattle.nms_rules.specs.Breach.{is_traded_through}
use Rattle.nms_rules.specs.Usable.{contra_rows}
use Rattle.nms_rules.proofs.FindLemmas.{find-here, find-none_more}
use Rattle.nms_rules.proofs.leg_test.first_traded_through.Goals as goal

pub returns-then-is_traded_through : goal.returns-then-is_traded_through
returns-then-is_traded_through c =
    sym (ap (find (is_traded_through c.args.order.now c.args.legs.now))
    (ap (λ (terms : Terms). contra_rows terms.side c.args.view.now) (sym c.order.view_is)
    ∙ ap (λ (s : Side). rows_on s c.args.view.now) (sym c.contra.ensures) ∙ sym c.rows-row-items.ensures.rows)
    ∙ find-here (is_traded_through c.args.order.now c.args.legs.now) c.rows-row-items.result.now c.loop-row.row-index
    c.row-item.result c.loop-row-test.true c.row-item.is c.loop-row.invariant
    (sym c.is_traded_through.ensures ∙ c.if-is_traded_through.true))

pub loop-row-preserved : goal.loop-row-preserved
loop-row-preserved c = find-none_more (is_traded_through c.args.order.now c.args.legs.now) c.rows-row-items.result.now
    c.loop-row.row-index c.row-item.result c.loop-row-test.true c.row-item.is c.loop-row.invariant
    (sym c.is_traded_through.ensures ∙ c.if-is_traded_through.false)

-- ---- goals that `grind` closes; the search that is tried before it takes longer

pub returns : goal.returns
returns c = grind (arith, common_steps)
