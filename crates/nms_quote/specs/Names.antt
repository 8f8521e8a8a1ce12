-- The entries of a table, each under a name, and names as numbers. This product's own rule.
use Rattle.std.specs.Prelude.{ℕ, ◌+◌, ◌*◌, ◌&&◌, Bool, List, [], ◌∷◌, length, map, nat_le, nat_lt, if◌then◌else◌}
use Rattle.std.specs.List.{list_all}
use Rattle.std.specs.String.{string_bytes}
use Rattle.std.specs.declared.string.String.{String}
use Rattle.nms_quote.specs.Roster.{Name}

-- a map's entries, each name as the bytes of its text
abbrev pub named : {Y Z : Type 0} → List (String Y × Z) → List (Name × Z)
named entries = map (λ entry. (string_bytes entry.0, entry.1)) entries

-- bytes as the digits that follow a number, to the base 256
abbrev pub number_after : ℕ → List ℕ → ℕ
number_after n [] = n
number_after n (c ∷ cs) = number_after (n * 256 + c) cs

-- a byte above 0
abbrev pub is_digit : ℕ → Bool
is_digit c = nat_lt 0 c && nat_lt c 256

-- a text of at most eight bytes, none of them 0, as one number; 0 for any other text
abbrev pub word_of : Name → ℕ
word_of text = if nat_le (length text) 8 && list_all is_digit text then number_after 0 text else 0

-- the words of the names
abbrev pub words_of : {Z : Type 0} → List (Name × Z) → List ℕ
words_of entries = map (λ entry. word_of entry.0) entries

-- the values of the entries
abbrev pub values_of : {Z : Type 0} → List (Name × Z) → List Z
values_of entries = map (λ entry. entry.1) entries
