-- `worked_examples`: all that it promises.
use Rattle.std.proofs.Common.{refl}
use Rattle.nms_import.proofs.laws.worked_examples.Goals as goal

pub returns : goal.returns
returns c = record {
  seconds_after_midnight = refl;
  a_fraction_is_filled_up = refl;
  a_day_is_too_long = refl;
  nanoseconds_since_1970 = refl;
  in_new_york_in_winter = refl;
  a_date_and_a_time = refl;
  over_midnight = refl;
  no_such_hour = refl;
  an_offset_is_taken_off = refl;
  in_the_zone_of_its_offset = refl;
  a_time_with_colons = refl;
  milliseconds_since_1970 = refl;
  in_new_york_by_name = refl;
  in_summer_by_name = refl;
  before_the_change = refl;
  after_the_change = refl;
  a_local_time = refl;
  not_if_it_says_an_offset = refl;
  not_in_another_form_of_a_date = refl;
  nor_with_an_offset = refl;
  nor_before_2007 = refl;
  not_if_it_counts_from_1970 = refl;
  colons_without_a_zone = refl;
  no_date_no_zone = refl;
  the_day_of_a_date = refl;
  the_next_day_in_a_zone = refl;
  a_morning_in_new_york = refl;
  the_evening_there = refl;
  no_date_no_day = refl;
  a_bit_of_a_number = refl;
  another_bit = refl;
  zeros_after_four_decimals = refl;
  a_size_with_a_point = refl;
}
