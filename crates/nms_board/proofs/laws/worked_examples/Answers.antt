-- `worked_examples`: all that it promises.
use Rattle.std.proofs.Common.{refl}
use Rattle.nms_board.specs.Given.{are_rows, falls}
use Rattle.nms_board.specs.History.{before_equal_end}
use Rattle.nms_board.proofs.laws.worked_examples.Goals as goal

pub returns : goal.returns
unfolding before_equal_end are_rows falls
returns c = record {
  part_of_a_lot_is_no_offer = refl;
  whole_lots_show = refl;
  more_shares_renew_the_receipt = refl;
  another_price_renews_the_receipt = refl;
  a_repeated_side_keeps_its_receipt = refl;
  a_halt_hides = refl;
  the_end_of_a_halt_shows_again = refl;
  a_manual_quotation_is_not_protected = refl;
  a_withdrawal_leaves_no_bid = refl;
  a_withdrawal_leaves_no_offer = refl;
  a_bid_after_a_withdrawal_is_new = refl;
  an_offer_after_a_withdrawal_is_new = refl;
  less_than_a_lot_is_hidden = refl;
  a_smaller_lot_brings_to_light = refl;
  a_lot_of_one_shows_all = refl;
  a_halt_hides_in_another_lot = refl;
  a_halt_lifted_shows_in_the_lot_of_then = refl;
  best_first_is_in_order = refl;
  offers_are_no_bids = refl;
  less_first_is_out_of_order = refl;
  equal_rows_are_out_of_order = refl;
  rows_by_place_are_a_side = refl;
  a_participant_twice_is_no_side = refl;
  a_receipt_twice_is_no_side = refl;
  no_shares_are_no_side = refl;
}
