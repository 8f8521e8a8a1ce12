-- `worked_examples`: all that it promises.
use Rattle.std.proofs.Common.{refl}
use Rattle.nms_quote.specs.Members.{has_part}
use Rattle.nms_trades.specs.Answers.{in_order}
use Rattle.nms_trades.specs.Day.{together}
use Rattle.nms_trades.specs.Sums.{cost_of}
use Rattle.nms_trades.proofs.laws.worked_examples.Goals as goal

pub returns : goal.returns
unfolding has_part in_order cost_of together
returns c = record {
  a_state_is_no_quotation = refl;
  one_without_prices_is = refl;
  a_withdrawal_is_known = refl;
  another_symbol_is_not_quoted = refl;
  a_shard_begins_at_its_cut = refl;
  it_ends_before_the_next = refl;
  without_its_own_time_it_begins_later = refl;
  and_ends_later = refl;
  the_second_decides = λ line. refl;
  one_judges = λ line. refl;
  two_may_not = λ line other. refl;
  no_one_does = refl;
  one_refuses = refl;
  none_has_the_symbol = refl;
  both_bids = λ execution. refl;
  many_shares = λ execution. refl;
  one_is_helped = λ execution. refl;
  no_bids = λ execution. refl;
  no_cause = refl;
  some_causes = refl;
  five_records = λ execution. refl;
  none_refused = refl;
  two_refused = refl;
  a_time = refl;
  the_first_is_worst = λ execution. refl;
  a_helped_one_is_not = λ execution. refl;
  bought_between = refl;
  bought_at_the_offer = refl;
  bought_outside = refl;
  sold_at_the_midpoint = refl;
  sold_above_the_offer = refl;
  unknown_between = refl;
  unknown_at_the_bid = refl;
  unknown_outside = refl;
  unknown_in_a_locked_market = refl;
  unknown_in_a_crossed_market = refl;
  bought_in_a_crossed_market = refl;
  no_offer = λ execution. refl;
  sizes = refl;
}
