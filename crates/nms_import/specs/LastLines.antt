-- Whether the last line of each file counts the rows before it. This product's own rule.
use Rattle.std.specs.Prelude.{ℕ, ◌+◌, ◌==◌, ◌&&◌, ◌||◌, not, Bool, true, false, List, Option, Some, None}
use Rattle.std.specs.Option.{option_map_or}
use Rattle.nms_units.specs.Digits.{number_in}
use Rattle.nms_lines.specs.Layout.{Record, field}
use Rattle.nms_import.specs.declared.last_lines.LastLines.{LastLines}

-- a text is the count of the rows after the first ones and before the row of a number
abbrev pub is_counted : (text : List ℕ) → (begun number : ℕ) → Bool
is_counted text begun number = option_map_or (λ said. begun + said + 1 == number) (number_in 15 text) false

-- a last line has another count, if one is asked of it
abbrev pub lacks_count : (count : Option ℕ) → Record → (begun number : ℕ) → Bool
lacks_count None line begun number = false
lacks_count (Some place) line begun number = not (is_counted (field line place) begun number)

-- no count is asked
abbrev pub is_free : (count : Option ℕ) → Bool
is_free None = true
is_free (Some place) = false

-- before the first file
abbrev pub before_files : (count : Option ℕ) → LastLines
before_files count = record { count = count; begun = 0; ended = false; short = false }

-- a file begins, after the rows of others
abbrev pub in_file : LastLines → (rows : ℕ) → LastLines
in_file lasts rows = record { count = lasts.count; begun = rows; ended = false; short = lasts.short }

-- after a last line, the row of a number
abbrev pub after_last : LastLines → Record → (number : ℕ) → LastLines
after_last lasts line number =
    record { count = lasts.count; begun = number; ended = true; short = lasts.short || lacks_count lasts.count line lasts.begun number }

-- after a file: it ends with a last line, if a count is asked
abbrev pub after_file : LastLines → (rows : ℕ) → LastLines
after_file lasts rows = record {
  count = lasts.count;
  begun = lasts.begun;
  ended = lasts.ended;
  short = lasts.short || not (is_free lasts.count || (lasts.ended && lasts.begun == rows));
}
