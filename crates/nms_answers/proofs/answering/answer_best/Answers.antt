-- `answer_best`: clause `told` and the call of `tell_best`, by `parts_seen`, `best_part` and `tells_best`.
use Rattle.std.proofs.Common.{◌≡◌, ◌<◌, ◌++◌, ◌∷◌, [], ap, length, subst, sym}
use Rattle.std.specs.Prelude.{All}
use Rattle.nms_quote.specs.Roster.{Listing}
use Rattle.nms_quote.specs.declared.side_quote.Side.TheVariants.{Bid, Offer}
use Rattle.nms_board.specs.View.{Seen, rows_on}
use Rattle.nms_board.specs.declared.row.Row.{Row}
use Rattle.nms_lines.specs.Text.{text_of}
use Rattle.nms_nbbo.proofs.Offered.{best_part}
use Rattle.nms_text.specs.Answers.{best_record}
use Rattle.nms_answers.proofs.AnswerFacts.{parts_seen, tells_best}
use Rattle.nms_answers.proofs.answering.answer_best.Goals as goal

pub tell_best-requires-clause-bid : goal.tell_best-requires-clause-bid
tell_best-requires-clause-bid c =
    let view = c.in_ok-view.view in
    let seen = c.in_ok-view.ensures.seen in
    let parts = parts_seen c.args.setup.now c.args.desk.now c.args.sym seen.0 view c.requires.sizes seen.2 Bid in
    best_part Bid (rows_on Bid view) c.best-bid.result (length c.roster.result.now.parts) c.best-bid.ensures
    (subst (λ (r : Listing). All (λ (row : Row). row.part < length r.parts) (rows_on Bid view)) (sym c.roster.ensures) parts)

pub tell_best-requires-clause-offer : goal.tell_best-requires-clause-offer
tell_best-requires-clause-offer c =
    let view = c.in_ok-view.view in
    let seen = c.in_ok-view.ensures.seen in
    let parts = parts_seen c.args.setup.now c.args.desk.now c.args.sym seen.0 view c.requires.sizes seen.2 Offer in
    best_part Offer (rows_on Offer view) c.best-offer.result (length c.roster.result.now.parts) c.best-offer.ensures
    (subst (λ (r : Listing). All (λ (row : Row). row.part < length r.parts) (rows_on Offer view)) (sym c.roster.ensures) parts)

pub returns-in-Ok-clause-told : goal.returns-in-Ok-clause-told
returns-in-Ok-clause-told c =
    let view = c.in_ok-view.view in
    let seen = c.in_ok-view.ensures.seen in
    let before = c.args.out.now.items in
    let after = c.tell_best.new.out.items in
    let text = c.in-Ok.ensures view (ap (λ (v : Seen). v.sym) seen.2) (sym c.version.ensures.version) in
    tells_best c.args.setup.now c.args.desk.now c.look.new.desk c.args.number c.args.sym seen.0 view c.best-bid.result c.best-offer.result
    before after c.requires.sizes seen.2 seen.1 c.best-bid.ensures c.best-offer.ensures
    (subst (λ (r : Listing). after ≡ before ++ text_of (best_record r c.args.number view c.best-bid.result c.best-offer.result ∷ []))
    c.roster.ensures text)
