-- `confirm_on`: clauses `accepted` and `optimal`, by `accepted_of_none`, `none_of_accepted` and `accepted_optimal`, since a
-- look shows rows.
use Rattle.std.proofs.Common.{◌≡◌, List, sym, ◌∙◌, subst}
use Rattle.std.specs.Result.{result_err}
use Rattle.nms_quote.specs.Terms.{Terms}
use Rattle.nms_quote.specs.declared.certificate.Cut.{Cut}
use Rattle.nms_quote.specs.declared.side_quote.Side.TheVariants.{Bid, Offer}
use Rattle.nms_board.specs.Shown.{rows_held, seen_on}
use Rattle.nms_board.specs.View.{AreRows, Seen}
use Rattle.nms_cert.specs.Doubts.{doubt_of}
use Rattle.nms_cert.proofs.AcceptedLemmas.{accepted_of_none, none_of_accepted}
use Rattle.nms_cert.proofs.OkLemmas.{none-ok, ok-none, on-ok}
use Rattle.nms_rules.proofs.Offered.{accepted_optimal, faultless_of_none, none_of_faultless}
use Rattle.nms_cert.proofs.board_confirming.confirm_on.Goals as goal

pub returns-clause-accepted : goal.returns-clause-accepted
returns-clause-accepted c =
    let board = c.args.board.now in
    let asked : Terms = c.args.order.now in
    let seen : Seen = seen_on board asked.sym in
    let fees = c.args.fees.now in
    let plan = c.args.plan.now in
    let cuts : List Cut = c.args.certificate.now.items in
    let bids = subst (λ (one : Terms). AreRows (rows_held board one.sym Bid)) c.order.view_is c.shows_rows.ensures.bids in
    let offers = subst (λ (one : Terms). AreRows (rows_held board one.sym Offer)) c.order.view_is c.shows_rows.ensures.offers in
    let first : result_err c.find_doubt_on.result ≡ doubt_of seen asked fees plan cuts = c.find_doubt_on.ensures in (
      (λ ok. accepted_of_none seen asked fees plan cuts (faultless_of_none seen asked fees plan bids offers)
          (sym first ∙ ok-none c.find_doubt_on.result ok)),
      (λ is. none-ok c.find_doubt_on.result
          (first ∙ none_of_accepted seen asked fees plan cuts (none_of_faultless seen asked fees plan bids offers) is)),
    )

pub returns-clause-optimal : goal.returns-clause-optimal
returns-clause-optimal c =
    let board = c.args.board.now in
    let bids = subst (λ (one : Terms). AreRows (rows_held board one.sym Bid)) c.order.view_is c.shows_rows.ensures.bids in
    let offers = subst (λ (one : Terms). AreRows (rows_held board one.sym Offer)) c.order.view_is c.shows_rows.ensures.offers in
    on-ok c.find_doubt_on.result _
    (λ ok. accepted_optimal (seen_on board c.args.order.now.sym) c.args.order.now c.args.fees.now c.args.plan.now
    c.args.certificate.now.items bids offers ((returns-clause-accepted c).0 ok))
