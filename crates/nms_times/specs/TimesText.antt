-- The text of times: a line for each change, of 16 bytes, or of 32 with the row of the source. This product's own rule.
use Rattle.std.specs.Prelude.{ℕ, ◌≡◌, ◌+◌, ◌-◌, ◌*◌, ◌/◌, ◌<◌, ◌==◌, ◌&&◌, ◌||◌, Bool, List, take, drop, length}
use Rattle.std.specs.Prelude.{slice_index, nat_le, nat_lt, Option, Some, None, IsSome, if◌then◌else◌}
use Rattle.std.specs.Char.{is_ascii_digit}
use Rattle.std.specs.List.{list_all}
use Rattle.nms_units.specs.Digits.{number_in}
use Rattle.nms_times.specs.Clock.{time_reading}

-- the bytes of a line: 32 if a comma follows the first time, else 16
abbrev pub width_of : List ℕ → ℕ
width_of text = if nat_lt 15 (length text) && slice_index text 15 == 44 then 32 else 16

-- the line at a place, from 0; the last may be cut off
abbrev pub line_at : (width : ℕ) → List ℕ → (place : ℕ) → List ℕ
line_at width text place = take width (drop (place * width) text)

-- the bytes after the time: a line feed; or a comma, 15 digits and a line feed
abbrev pub is_end : List ℕ → Bool
is_end rest =
    (length rest == 1 && slice_index rest 0 == 10)
    || (length rest == 17 && slice_index rest 0 == 44 && list_all is_ascii_digit (take 15 (drop 1 rest)) && slice_index rest 16 == 10)

-- the time of a line: its first 15 bytes, if the line is complete and ends as a line does
abbrev pub time_in : (width : ℕ) → List ℕ → Option ℕ
time_in width line = if length line == width && is_end (drop 15 line) then time_reading (take 15 line) else None

-- the time of the line at a place of a text
abbrev pub time_at : List ℕ → (place : ℕ) → Option ℕ
time_at text place = time_in (width_of text) (line_at (width_of text) text place)

-- a text has these times, one on each line
pub record HasTimes (text times : List ℕ) : Type 0 where
  pub whole : length text ≡ length times * width_of text
  pub each : (place : ℕ) → place < length times → time_at text place ≡ Some (slice_index times place)

-- a line, from 1, is the first that has no time; the last may be cut off
pub record IsFirstWrong (text : List ℕ) (line : ℕ) : Type 0 where
  pub place : ℕ
  pub counted : line ≡ place + 1
  pub there : place * width_of text < length text
  pub wrong : time_at text place ≡ None
  pub first : (earlier : ℕ) → earlier < place → IsSome (time_at text earlier)

-- the row of the source of a version's last change, if the lines have rows
abbrev pub row_of : List ℕ → (version : ℕ) → Option ℕ
row_of text version =
    if nat_lt 0 version && width_of text == 32 && nat_le version (length text / 32)
    then number_in 15 (take 15 (drop 16 (line_at 32 text (version - 1)))) else None
