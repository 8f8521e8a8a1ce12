-- `row_for_on`: all that it promises, by `row_found` and `row_of_nobody`.
use Rattle.std.proofs.Common.{ap, ◌∙◌, arith}
use Rattle.nms_quote.specs.declared.side_quote.Side.{Side}
use Rattle.nms_board.specs.Shown.{row_held}
use Rattle.nms_rules.specs.Usable.{contra}
use Rattle.nms_rules.proofs.HeldLemmas.{row_found, row_of_nobody}
use Rattle.nms_rules.proofs.leg_test.row_for_on.Goals as goal

pub returns-then-get-parts : goal.returns-then-get-parts
returns-then-get-parts c =
    let part = c.args.leg.now.part in
    c.row.ensures ∙ ap (λ (side : Side). row_held c.args.board.now c.args.sym side part) c.contra.ensures
    ∙ row_found c.args.board.now c.args.sym part (contra c.args.side)
    (omega (arith, c.get.ensures.place, c.parts.ensures.count, c.if-get-parts.true))

pub returns-else-get-parts : goal.returns-else-get-parts
returns-else-get-parts c =
    row_of_nobody c.args.board.now c.args.sym c.args.leg.now.part (contra c.args.side)
    (omega (arith, c.get.ensures.place, c.parts.ensures.count, c.if-get-parts.false))
