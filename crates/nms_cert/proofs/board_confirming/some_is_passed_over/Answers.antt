-- `some_is_passed_over`: all that it promises, by `none_beyond` and `not_short`.
use Rattle.std.proofs.Common.{◌≡◌, false, get_or, sym, ◌∙◌, arith}
use Rattle.nms_rules.specs.Usable.{Usable}
use Rattle.nms_cert.specs.Quick.{is_passed_over}
use Rattle.nms_cert.proofs.FindLemmas.{every_more}
use Rattle.nms_cert.proofs.QuickLemmas.{none_beyond, not_short}
use Rattle.nms_cert.proofs.board_confirming.some_is_passed_over.Goals as goal

pub loop-row-preserved : goal.loop-row-preserved
loop-row-preserved c =
    every_more (λ (row : Usable). is_passed_over c.args.side c.args.legs.now row ≡ false) c.args.rows.now c.loop-row.row-index
    c.row-item.result c.loop-row-test.true c.row-item.is c.loop-row.invariant
    (not_short c.args.side c.in-Some.worst c.args.legs.now c.row-item.result c.in-Some.ensures (sym c.is_short.ensures ∙ c.if-is_short.false))

pub returns-in_default : goal.returns-in_default
returns-in_default c = λ none k d below. rw c.in_default.ensures (none_beyond c.args.side (get_or c.args.rows.now k d))

pub returns : goal.returns
returns c = λ none k d below. c.loop-row.invariant k d (omega (arith, below, c.loop-row-test.false))
