-- The lines of a stream, and what of them is passed on to the reader of its records. This product's own rule.
use Rattle.std.specs.Prelude.{ℕ, ◌==◌, ◌&&◌, ◌||◌, not, Bool, false, List, [], ◌∷◌, ◌++◌, length, nat_le, if◌then◌else◌}
use Rattle.nms_whole.specs.declared.TheConstants.{MOST_LINE}

-- whether a byte is among these
abbrev pub has_byte : ℕ → List ℕ → Bool
has_byte byte [] = false
has_byte byte (first ∷ rest) = (first == byte) || has_byte byte rest

-- whether a carriage return (13) is anywhere but at the end
abbrev pub returns_within : List ℕ → Bool
returns_within [] = false
returns_within (first ∷ []) = false
returns_within (first ∷ second ∷ rest) = (first == 13) || returns_within (second ∷ rest)

-- a line may be passed on: it is not too long, has no double quote (34), and no carriage return but at its end
abbrev pub is_fit : List ℕ → Bool
is_fit line = nat_le (length line) MOST_LINE && not (has_byte 34 line) && not (returns_within line)

-- the replacement of a line that may not: one question mark (63), which no record of a kind begins with
abbrev pub refused_line : List ℕ
refused_line = 63 ∷ 10 ∷ []

-- a line as it is passed on, with its line feed (10)
abbrev pub passed : List ℕ → List ℕ
passed line = if is_fit line then line ++ 10 ∷ [] else refused_line

-- what is left of a stream after its last line feed: a line that was torn, unless it is nothing
abbrev pub torn : List ℕ → List ℕ
torn [] = []
torn (first ∷ rest) = refused_line

-- the text that is passed on of a stream of which these bytes of a line were there before
abbrev pub whole_after : List ℕ → List ℕ → List ℕ
whole_after begun [] = torn begun
whole_after begun (byte ∷ bytes) = if byte == 10 then passed begun ++ whole_after [] bytes else whole_after (begun ++ byte ∷ []) bytes

-- the text that is passed on of a stream: each line as it is passed on
abbrev pub whole_lines : List ℕ → List ℕ
whole_lines bytes = whole_after [] bytes
