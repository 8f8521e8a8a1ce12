-- The file of the lengths that were published. This product's own rule.
use Rattle.std.specs.Prelude.{ℕ, List, [], ◌∷◌, ◌++◌, length}
use Rattle.std.specs.Fmt.{decimal}
use Rattle.nms_quote.specs.Tape.{Tape}

-- a length as it is written there: its digits and a line feed (10)
abbrev pub length_line : ℕ → List ℕ
length_line n = decimal n ++ 10 ∷ []

-- the lengths of a tape that has only its opening changes: these are published at once, if there are any
abbrev pub opening_lines : Tape → List ℕ
opening_lines [] = []
opening_lines (change ∷ tape) = length_line (length (change ∷ tape))
