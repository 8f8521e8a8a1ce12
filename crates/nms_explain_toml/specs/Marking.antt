-- The line of a text that holds a place, and the columns of a line. This product's own rule.
use Rattle.std.specs.Prelude.{ℕ, ◌≡◌, ◌+◌, ◌-◌, ◌==◌, ◌||◌, List, Bool, not}
use Rattle.std.specs.Prelude.{count_by, drop, length, min, nat_le, nat_lt, reverse, take, take_while}
use Rattle.nms_explain_toml.specs.declared.marked.Marked.{Marked}
use Rattle.nms_explain_toml.specs.Blanks.{trim_end, trim_start}
use Rattle.nms_explain_toml.specs.declared.toml_line.Pair.{Pair}

-- whether a byte ends a line
abbrev pub is_feed : ℕ → Bool
is_feed byte = byte == 10

-- the number of the line that holds a place: one more than the line feeds before it
abbrev pub line_number : List ℕ → ℕ → ℕ
line_number text place = 1 + count_by is_feed (take place text)

-- where that line begins: after the last line feed before the place
abbrev pub line_begin : List ℕ → ℕ → ℕ
line_begin text place = place - length (take_while (λ byte. not (is_feed byte)) (reverse (take place text)))

-- the line that begins at a place, without its end
abbrev pub line_from : List ℕ → ℕ → List ℕ
line_from text begin = take_while (λ byte. not (is_feed byte)) (drop begin text)

-- whether a byte begins a character of UTF-8
abbrev pub begins_character : ℕ → Bool
begins_character byte = nat_lt byte 128 || nat_le 192 byte

-- the column of a place of a line: one more than the characters that begin before it
abbrev pub column_at : List ℕ → ℕ → ℕ
column_at line place = 1 + count_by begins_character (take place line)

-- a part of a line that is no key with its value
abbrev pub span : ℕ → ℕ → Pair
span start end = record { key = start; key_end = end; start = start; end = end }

-- another part of the same line
abbrev pub remarked : Marked → Pair → Marked
remarked marked pair = record { line = marked.line; before = marked.before; number = marked.number; pair = pair }

-- the complete line, except for the white space at its start
abbrev pub whole : Marked → Marked
whole marked = remarked marked (span (length marked.line.now - length (trim_start marked.line.now)) (length marked.line.now))

-- a part of the line of a text that holds a place, with that line's own number
pub record IsOf (text : List ℕ) (marked : Marked) : Type 0 where
  pub place : ℕ
  pub number : marked.number ≡ line_number text place
  pub before : marked.before ≡ line_begin text (min place (length text))
  pub line : marked.line.now ≡ trim_end (line_from text marked.before)
