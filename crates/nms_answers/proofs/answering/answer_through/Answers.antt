-- `answer_through`: clause `told` and the call of `tell_through`, by `parts_seen` and `tells_through`.
use Rattle.std.proofs.Common.{◌≡◌, ◌<◌, ◌++◌, length, subst, sym}
use Rattle.std.specs.Prelude.{All}
use Rattle.nms_quote.specs.Roster.{Listing}
use Rattle.nms_board.specs.View.{rows_on}
use Rattle.nms_board.specs.declared.row.Row.{Row}
use Rattle.nms_lines.specs.Text.{text_of}
use Rattle.nms_rules.specs.Through.{traded_through_at}
use Rattle.nms_text.specs.Answers.{through_records}
use Rattle.nms_answers.proofs.AnswerFacts.{parts_seen, tells_through}
use Rattle.nms_answers.proofs.answering.answer_through.Goals as goal

pub tell_through-requires-clause-parts : goal.tell_through-requires-clause-parts
tell_through-requires-clause-parts c side =
    let view = c.in_ok-view.view in
    let seen = c.in_ok-view.ensures.seen in
    subst (λ (r : Listing). All (λ (row : Row). row.part < length r.parts) (rows_on side view)) (sym c.roster.ensures)
    (parts_seen c.args.setup.now c.args.desk.now c.args.sym seen.0 view c.requires.sizes seen.2 side)

pub returns-in-Ok-clause-told : goal.returns-in-Ok-clause-told
returns-in-Ok-clause-told c =
    let view = c.in_ok-view.view in
    let seen = c.in_ok-view.ensures.seen in
    let before = c.args.out.now.items in
    let after = c.tell_through.new.out.items in
    tells_through c.args.setup.now c.args.desk.now c.look.new.desk c.args.number c.args.sym c.args.price seen.0 view before after
    c.requires.sizes seen.2 seen.1
    (subst (λ (r : Listing). after ≡ before ++ text_of
    (through_records r c.args.number view c.args.price (traded_through_at view c.args.price)))
    c.roster.ensures c.in-Ok.ensures)
