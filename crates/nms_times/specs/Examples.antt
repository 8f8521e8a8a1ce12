-- Worked examples of the definitions: four changes, of which the second and the third have one time.
use Rattle.std.specs.Prelude.{ℕ, ◌≡◌, [], ◌∷◌, ◌++◌, List, Option, Some, None, flat_map}
use Rattle.nms_times.specs.Clock.{time_reading, time_text}
use Rattle.nms_times.specs.Times.{between, time_of, version_at, version_before}
use Rattle.nms_times.specs.TimesText.{row_of, time_at}

-- 09:30:00, a nanosecond after it twice, 16:00:00
abbrev pub four : List ℕ
four = 93000000000000 ∷ 93000000000001 ∷ 93000000000001 ∷ 160000000000000 ∷ []

-- as text
abbrev pub four_lines : List ℕ
four_lines = flat_map (λ t. time_text t ++ 10 ∷ []) four

-- 09:30:00, and the seventh row of the source
abbrev pub numbered : List ℕ
numbered = time_text 93000000000000 ++ 44 ∷ time_text 7 ++ 10 ∷ []

-- the digits 093000, 240000 and 096000
abbrev pub half_past_nine : List ℕ
half_past_nine = 48 ∷ 57 ∷ 51 ∷ 48 ∷ 48 ∷ 48 ∷ []

abbrev pub midnight_late : List ℕ
midnight_late = 50 ∷ 52 ∷ 48 ∷ 48 ∷ 48 ∷ 48 ∷ []

abbrev pub sixty_minutes : List ℕ
sixty_minutes = 48 ∷ 57 ∷ 54 ∷ 48 ∷ 48 ∷ 48 ∷ []

pub record ExamplesHold : Type 0 where
  pub before_the_first : version_at four 92959999999999 ≡ 0
  pub at_the_first : version_at four 93000000000000 ≡ 1
  pub a_tie_is_whole : version_at four 93000000000001 ≡ 3
  pub before_a_tie : version_before four 93000000000001 ≡ 1
  pub between_two : version_at four 120000000000000 ≡ 3
  pub after_the_last : version_at four 170000000000000 ≡ 4
  pub of_no_times : version_at [] 93000000000000 ≡ 0
  pub version_0_has_no_time : time_of four 0 ≡ None
  pub the_last_has_one : time_of four 4 ≡ Some 160000000000000
  pub beyond_it_is_none : time_of four 5 ≡ None
  pub a_part : between four 1 3 ≡ 93000000000001 ∷ 93000000000001 ∷ []
  pub six_digits_are_a_time : time_reading half_past_nine ≡ Some 93000000000000
  pub fifteen_are_one : time_reading (time_text 93000000000001) ≡ Some 93000000000001
  pub one_more_is_none : time_reading (time_text 93000000000001 ++ 48 ∷ []) ≡ None
  pub no_day_has_24_hours : time_reading midnight_late ≡ None
  pub no_hour_has_60_minutes : time_reading sixty_minutes ≡ None
  pub a_line_has_its_time : time_at four_lines 3 ≡ Some 160000000000000
  pub a_row_may_follow : time_at numbered 0 ≡ Some 93000000000000
  pub it_is_read : row_of numbered 1 ≡ Some 7
  pub a_return_before_the_line_feed_is_wrong : time_at (time_text 93000000000000 ++ 13 ∷ 10 ∷ []) 0 ≡ None
