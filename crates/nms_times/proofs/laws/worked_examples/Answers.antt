-- `worked_examples`: all that it promises.
use Rattle.std.proofs.Common.{refl}
use Rattle.nms_times.proofs.laws.worked_examples.Goals as goal

pub returns : goal.returns
returns c = record {
  before_the_first = refl;
  at_the_first = refl;
  a_tie_is_whole = refl;
  before_a_tie = refl;
  between_two = refl;
  after_the_last = refl;
  of_no_times = refl;
  version_0_has_no_time = refl;
  the_last_has_one = refl;
  beyond_it_is_none = refl;
  a_part = refl;
  six_digits_are_a_time = refl;
  fifteen_are_one = refl;
  one_more_is_none = refl;
  no_day_has_24_hours = refl;
  no_hour_has_60_minutes = refl;
  a_line_has_its_time = refl;
  a_row_may_follow = refl;
  it_is_read = refl;
  a_return_before_the_line_feed_is_wrong = refl;
}
