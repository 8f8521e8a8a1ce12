-- `worked_examples`: all that it promises.
use Rattle.std.proofs.Common.{refl}
use Rattle.nms_board.specs.Cells.{withdraw_from}
use Rattle.nms_opening.proofs.laws.worked_examples.Goals as goal

pub returns : goal.returns
unfolding withdraw_from
returns c = record {
  bids_are_shown = refl;
  the_same_bids_open = refl;
  odd_lots_are_hidden = refl;
  the_same_offers_open = refl;
  a_hidden_offer_stands = refl;
  a_bid_came_first = refl;
  it_comes_first_again = refl;
  an_offer_came_last = refl;
  it_comes_last_again = refl;
  a_smaller_lot_shows_both = refl;
  and_so_it_does_again = refl;
  who_halts_is_hidden = refl;
  a_halt_opens_as_one = refl;
  its_state_is_kept = refl;
  receipts_decide_a_tie = refl;
  another_order_shows_otherwise = refl;
}
