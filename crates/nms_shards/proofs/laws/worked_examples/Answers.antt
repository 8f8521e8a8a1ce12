-- `worked_examples`: all that it promises.
use Rattle.std.proofs.Common.{refl}
use Rattle.nms_board.specs.History.{before_equal_end}
use Rattle.nms_shards.proofs.laws.worked_examples.Goals as goal

pub returns : goal.returns
unfolding before_equal_end
returns c = record {
  the_shard_says_the_same = refl;
  a_withdrawal_is_of_both = refl;
  the_first_symbol_is_another = refl;
  the_earlier_bid_ranks_first = refl;
  so_it_does_in_the_shard = refl;
  one_bid_is_left = refl;
  no_offer_is_shown = refl;
}
