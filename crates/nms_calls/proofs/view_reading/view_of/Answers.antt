-- `view_of`: the view is said, by `view_said`; if there is none, no view is, by clause `all` of each reading and `sums_said`.
use Rattle.std.proofs.Common.{◌≡◌, refl, sym, ◌∙◌, subst, rules, false, true}
use Rattle.nms_quote.specs.declared.side_quote.Side.TheVariants.{Bid, Offer}
use Rattle.nms_board.specs.Ranking.{IsRankOrder, ranked}
use Rattle.nms_calls.proofs.ViewLemmas.{is_order, order_said, side_in, sums_said, view_said}
use Rattle.nms_calls.proofs.view_reading.view_of.Goals as goal

pub returns-in_default-rows_of : goal.returns-in_default-rows_of
returns-in_default-rows_of c =
    let parts = c.args.parts in let n = c.args.numbers.now in
    record {
      view = tt;
      all = λ seen said. c.in_default-rows_of.ensures.all (ranked Bid seen.bids)
          (order_said Bid parts n.version seen.bids n.bid (side_in Bid parts seen n seen.bids n.bid said said.bids));
    }

pub returns-in_default-rows_of-2 : goal.returns-in_default-rows_of-2
returns-in_default-rows_of-2 c =
    let parts = c.args.parts in let n = c.args.numbers.now in
    record {
      view = tt;
      all = λ seen said. c.in_default-rows_of-2.ensures.all (ranked Offer seen.offers)
          (order_said Offer parts n.version seen.offers n.offer (side_in Offer parts seen n seen.offers n.offer said said.offers));
    }

pub returns-in_default-of_ranked : goal.returns-in_default-of_ranked
returns-in_default-of_ranked c =
    let parts = c.args.parts in let n = c.args.numbers.now in
    let bids = c.in-Some-rows_of.bids.items in let offers = c.in-Some-rows_of-2.offers.items in
    record {
      view = tt;
      all = λ seen said. c.in_default-of_ranked.ensures.all seen said.bids.shown said.offers.shown
          (subst (IsRankOrder Bid seen.bids) (sym c.as_slice.ensures.value)
          (is_order Bid parts n.version seen.bids bids n.bid (side_in Bid parts seen n seen.bids n.bid said said.bids)
          c.in-Some-rows_of.ensures.rows))
          (subst (IsRankOrder Offer seen.offers) (sym c.as_slice-2.ensures.value)
          (is_order Offer parts n.version seen.offers offers n.offer
          (side_in Offer parts seen n seen.offers n.offer said said.offers) c.in-Some-rows_of-2.ensures.rows));
    }

pub returns-then-not-are_sums : goal.returns-then-not-are_sums
returns-then-not-are_sums c =
    let parts = c.args.parts in let n = c.args.numbers.now in let made = c.in-Some-of_ranked.view in
    let bids = c.in-Some-rows_of.bids.items in let offers = c.in-Some-rows_of-2.offers.items in
    let told : c.are_sums.result ≡ false = search rules in
    record {
      view = tt;
      all = λ seen said. sym told ∙ c.are_sums.ensures.1
          (sums_said parts seen made bids offers n said c.in-Some-of_ranked.ensures.rows
          (subst (IsRankOrder Bid made.bids) c.as_slice.ensures.value c.in-Some-of_ranked.ensures.bids)
          (subst (IsRankOrder Offer made.offers) c.as_slice-2.ensures.value c.in-Some-of_ranked.ensures.offers)
          c.in-Some-rows_of.ensures.rows c.in-Some-rows_of-2.ensures.rows);
    }

pub returns : goal.returns
returns c =
    let parts = c.args.parts in let n = c.args.numbers.now in let made = c.in-Some-of_ranked.view in
    let bids = c.in-Some-rows_of.bids.items in let offers = c.in-Some-rows_of-2.offers.items in
    let told : c.are_sums.result ≡ true = search rules in
    record {
      view = view_said parts c.in-Some.sym made bids offers n c.in-Some-of_ranked.ensures.look c.in-Some.ensures
          c.in-Some-of_ranked.ensures.rows
          (subst (IsRankOrder Bid made.bids) c.as_slice.ensures.value c.in-Some-of_ranked.ensures.bids)
          (subst (IsRankOrder Offer made.offers) c.as_slice-2.ensures.value c.in-Some-of_ranked.ensures.offers)
          c.in-Some-rows_of.ensures.rows c.in-Some-rows_of-2.ensures.rows (c.are_sums.ensures.0 told);
      all = λ seen said. refl;
    }
