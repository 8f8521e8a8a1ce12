-- Worked examples of the definitions of times and numbers. The right-hand side gives the time of day or the number by hand.
use Rattle.std.specs.Prelude.{◌≡◌, ℕ, codes, List, [], ◌∷◌, Some, None}
use Rattle.nms_import.specs.declared.meanings.TimeForm.TheVariants as form
use Rattle.nms_import.specs.declared.meanings.PriceUnit.TheVariants as unit
use Rattle.nms_import.specs.declared.meanings.Zone.TheVariants as zone
use Rattle.nms_units.specs.Digits.{number_in}
use Rattle.nms_import.specs.Mapping.{bits_text, number_of, without_zeros}
use Rattle.nms_import.specs.Times.{clock_of, day_of}

-- 34200.000000001
abbrev pub half_past_nine : List ℕ
half_past_nine = 51 ∷ 52 ∷ 50 ∷ 48 ∷ 48 ∷ 46 ∷ 48 ∷ 48 ∷ 48 ∷ 48 ∷ 48 ∷ 48 ∷ 48 ∷ 48 ∷ 49 ∷ []

-- 59.5
abbrev pub just_after_midnight : List ℕ
just_after_midnight = 53 ∷ 57 ∷ 46 ∷ 53 ∷ []

-- 86400
abbrev pub a_whole_day : List ℕ
a_whole_day = 56 ∷ 54 ∷ 52 ∷ 48 ∷ 48 ∷ []

-- 1704205800000000001: 2024-01-02T14:30:00.000000001Z
abbrev pub unix : List ℕ
unix = 49 ∷ 55 ∷ 48 ∷ 52 ∷ 50 ∷ 48 ∷ 53 ∷ 56 ∷ 48 ∷ 48 ∷ 48 ∷ 48 ∷ 48 ∷ 48 ∷ 48 ∷ 48 ∷ 48 ∷ 48 ∷ 49 ∷ []

-- 2024-01-02T14:30:07.25Z
abbrev pub iso : List ℕ
iso =
    50 ∷ 48 ∷ 50 ∷ 52 ∷ 45 ∷ 48 ∷ 49 ∷ 45 ∷ 48 ∷ 50 ∷ 84 ∷ 49 ∷ 52 ∷ 58 ∷ 51 ∷ 48 ∷ 58 ∷ 48 ∷ 55 ∷ 46 ∷ 50 ∷ 53 ∷ 90 ∷ []

-- 2024-01-02 24:00:00
abbrev pub no_hour : List ℕ
no_hour = 50 ∷ 48 ∷ 50 ∷ 52 ∷ 45 ∷ 48 ∷ 49 ∷ 45 ∷ 48 ∷ 50 ∷ 32 ∷ 50 ∷ 52 ∷ 58 ∷ 48 ∷ 48 ∷ 58 ∷ 48 ∷ 48 ∷ []

-- 2024-01-02 09:30:00.5-05:00
abbrev pub with_offset : List ℕ
with_offset =
    50 ∷ 48 ∷ 50 ∷ 52 ∷ 45 ∷ 48 ∷ 49 ∷ 45 ∷ 48 ∷ 50 ∷ 32 ∷ 48 ∷ 57 ∷ 58 ∷ 51 ∷ 48 ∷ 58 ∷ 48 ∷ 48 ∷ 46 ∷ 53 ∷ 45 ∷ 48 ∷ 53 ∷ 58 ∷ 48 ∷ 48 ∷ []

-- 09:30:00.5
abbrev pub with_colons : List ℕ
with_colons = 48 ∷ 57 ∷ 58 ∷ 51 ∷ 48 ∷ 58 ∷ 48 ∷ 48 ∷ 46 ∷ 53 ∷ []

-- 1704205800250
abbrev pub milliseconds : List ℕ
milliseconds = 49 ∷ 55 ∷ 48 ∷ 52 ∷ 50 ∷ 48 ∷ 53 ∷ 56 ∷ 48 ∷ 48 ∷ 50 ∷ 53 ∷ 48 ∷ []

-- 200: 128 + 64 + 8
abbrev pub flags : List ℕ
flags = 50 ∷ 48 ∷ 48 ∷ []

-- 10.01000
abbrev pub long_price : List ℕ
long_price = 49 ∷ 48 ∷ 46 ∷ 48 ∷ 49 ∷ 48 ∷ 48 ∷ 48 ∷ []

-- 300.0
abbrev pub round_size : List ℕ
round_size = 51 ∷ 48 ∷ 48 ∷ 46 ∷ 48 ∷ []

-- 2024-01-02 09:30:00
abbrev pub local_iso : List ℕ
local_iso = 50 ∷ 48 ∷ 50 ∷ 52 ∷ 45 ∷ 48 ∷ 49 ∷ 45 ∷ 48 ∷ 50 ∷ 32 ∷ 48 ∷ 57 ∷ 58 ∷ 51 ∷ 48 ∷ 58 ∷ 48 ∷ 48 ∷ []

-- 01/02/2024 09:30:00
abbrev pub month_first : List ℕ
month_first = 48 ∷ 49 ∷ 47 ∷ 48 ∷ 50 ∷ 47 ∷ 50 ∷ 48 ∷ 50 ∷ 52 ∷ 32 ∷ 48 ∷ 57 ∷ 58 ∷ 51 ∷ 48 ∷ 58 ∷ 48 ∷ 48 ∷ []

-- 2006-12-29 09:30:00
abbrev pub before_the_rule : List ℕ
before_the_rule = 50 ∷ 48 ∷ 48 ∷ 54 ∷ 45 ∷ 49 ∷ 50 ∷ 45 ∷ 50 ∷ 57 ∷ 32 ∷ 48 ∷ 57 ∷ 58 ∷ 51 ∷ 48 ∷ 58 ∷ 48 ∷ 48 ∷ []

-- 2024-03-10 01:59:59-05:00
abbrev pub last_of_winter : List ℕ
last_of_winter =
    50 ∷ 48 ∷ 50 ∷ 52 ∷ 45 ∷ 48 ∷ 51 ∷ 45 ∷ 49 ∷ 48 ∷ 32 ∷ 48 ∷ 49 ∷ 58 ∷ 53 ∷ 57 ∷ 58 ∷ 53 ∷ 57 ∷ 45 ∷ 48 ∷ 53 ∷ 58 ∷ 48 ∷ 48 ∷ []

-- 2024-03-10 12:30:00+05:30
abbrev pub first_of_summer : List ℕ
first_of_summer =
    50 ∷ 48 ∷ 50 ∷ 52 ∷ 45 ∷ 48 ∷ 51 ∷ 45 ∷ 49 ∷ 48 ∷ 32 ∷ 49 ∷ 50 ∷ 58 ∷ 51 ∷ 48 ∷ 58 ∷ 48 ∷ 48 ∷ 43 ∷ 48 ∷ 53 ∷ 58 ∷ 51 ∷ 48 ∷ []

-- 1720013400: 2024-07-03T13:30:00Z
abbrev pub july : List ℕ
july = 49 ∷ 55 ∷ 50 ∷ 48 ∷ 48 ∷ 49 ∷ 51 ∷ 52 ∷ 48 ∷ 48 ∷ 48 ∷ 48 ∷ 48 ∷ []

-- 1704241800000: 2024-01-03T00:30:00Z
abbrev pub evening : List ℕ
evening = 49 ∷ 55 ∷ 48 ∷ 52 ∷ 50 ∷ 52 ∷ 49 ∷ 56 ∷ 48 ∷ 48 ∷ 48 ∷ 48 ∷ 48 ∷ []

-- what the texts say; a zone of -0500 is 68,400 seconds on
pub record ExamplesHold : Type 0 where
  pub seconds_after_midnight : clock_of form.Seconds (zone.Moved 0) half_past_nine ≡ Some 93000000000001
  pub a_fraction_is_filled_up : clock_of form.Seconds (zone.Moved 0) just_after_midnight ≡ Some 59500000000
  pub a_day_is_too_long : clock_of form.Seconds (zone.Moved 0) a_whole_day ≡ None
  pub nanoseconds_since_1970 : clock_of form.UnixNanoseconds (zone.Moved 0) unix ≡ Some 143000000000001
  pub in_new_york_in_winter : clock_of form.UnixNanoseconds (zone.Moved 68400) unix ≡ Some 93000000000001
  pub a_date_and_a_time : clock_of form.Iso (zone.Moved 0) iso ≡ Some 143007250000000
  pub over_midnight : clock_of form.Iso (zone.Moved 36000) iso ≡ Some 3007250000000
  pub no_such_hour : clock_of form.Iso (zone.Moved 0) no_hour ≡ None
  pub an_offset_is_taken_off : clock_of form.Iso (zone.Moved 0) with_offset ≡ Some 143000500000000
  pub in_the_zone_of_its_offset : clock_of form.Iso (zone.Moved 68400) with_offset ≡ Some 93000500000000
  pub a_time_with_colons : clock_of form.Colons (zone.Moved 0) with_colons ≡ Some 93000500000000
  pub milliseconds_since_1970 : clock_of form.UnixMilliseconds (zone.Moved 68400) milliseconds ≡ Some 93000250000000
  pub in_new_york_by_name : clock_of form.UnixNanoseconds zone.NewYork unix ≡ Some 93000000000001
  pub in_summer_by_name : clock_of form.UnixMilliseconds zone.NewYork july ≡ Some 93000000000000
  pub before_the_change : clock_of form.Iso zone.NewYork last_of_winter ≡ Some 15959000000000
  pub after_the_change : clock_of form.Iso zone.NewYork first_of_summer ≡ Some 30000000000000
  pub a_local_time : clock_of form.Iso zone.Unsaid local_iso ≡ Some 93000000000000
  pub not_if_it_says_an_offset : clock_of form.Iso zone.Unsaid with_offset ≡ None
  pub not_in_another_form_of_a_date : clock_of form.Iso zone.Unsaid month_first ≡ None
  pub nor_with_an_offset : clock_of form.Iso (zone.Moved 68400) month_first ≡ None
  pub nor_before_2007 : clock_of form.Iso zone.Unsaid before_the_rule ≡ None
  pub not_if_it_counts_from_1970 : clock_of form.UnixNanoseconds zone.Unsaid unix ≡ None
  pub colons_without_a_zone : clock_of form.Colons zone.Unsaid with_colons ≡ Some 93000500000000
  pub no_date_no_zone : clock_of form.Colons zone.NewYork with_colons ≡ None
  pub the_day_of_a_date : day_of form.Iso zone.Unsaid local_iso ≡ Some 19724
  pub the_next_day_in_a_zone : day_of form.Iso (zone.Moved 36000) iso ≡ Some 19725
  pub a_morning_in_new_york : day_of form.UnixNanoseconds zone.NewYork unix ≡ Some 19725
  pub the_evening_there : day_of form.UnixMilliseconds zone.NewYork evening ≡ Some 19725
  pub no_date_no_day : day_of form.Colons zone.Unsaid with_colons ≡ None
  pub a_bit_of_a_number : bits_text 128 flags ≡ codes "1"
  pub another_bit : bits_text 4 flags ≡ codes "0"
  pub zeros_after_four_decimals : number_of unit.Dollars long_price ≡ Some 100100
  pub a_size_with_a_point : number_in 9 (without_zeros 0 round_size) ≡ Some 300
