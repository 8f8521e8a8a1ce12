-- How a line goes on by one more byte, if only what can be passed on is held. This product's own rule.
use Rattle.std.specs.Prelude.{ℕ, ◌==◌, ◌||◌, Bool, true, false, List, [], ◌∷◌, ◌++◌, length, nat_le, if◌then◌else◌}
use Rattle.nms_whole.specs.Lines.{refused_line}
use Rattle.nms_whole.specs.declared.TheConstants.{MOST_LINE}

-- the last byte is a carriage return
abbrev pub ends_in_return : List ℕ → Bool
ends_in_return [] = false
ends_in_return (byte ∷ []) = byte == 13
ends_in_return (first ∷ second ∷ rest) = ends_in_return (second ∷ rest)

-- a line of which these bytes are held can't be passed on with this one
abbrev pub spoils : List ℕ → ℕ → Bool
spoils line byte = (byte == 34) || nat_le MOST_LINE (length line) || ends_in_return line

-- what is passed on of the line in hand at its line feed
abbrev pub at_feed : List ℕ → Bool → List ℕ
at_feed line is_bad = if is_bad then refused_line else line ++ 10 ∷ []

-- and at the end of the stream
abbrev pub at_end : List ℕ → Bool → List ℕ
at_end line true = refused_line
at_end [] false = []
at_end (first ∷ rest) false = refused_line

-- what is passed on of the bytes to come, if these of the line in hand are held, or it is bad already
abbrev pub given_after : List ℕ → Bool → List ℕ → List ℕ
given_after line is_bad [] = at_end line is_bad
given_after line is_bad (byte ∷ bytes) =
    if byte == 10 then at_feed line is_bad ++ given_after [] false bytes
    else (if is_bad || spoils line byte then given_after [] true bytes else given_after (line ++ byte ∷ []) false bytes)
