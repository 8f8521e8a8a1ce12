-- Participants named in one field (self-help, 17 CFR 242.611(b)(1)): names of the roster joined by `+`, in any order; a
-- repeated one counts once. They are written in order of place. This layout is this product's own rule.
use Rattle.std.specs.Prelude.{ℕ, zero, suc, ◌≡◌, ◌<◌, ◌+◌, ◌==◌, true, List, [], ◌∷◌, ◌++◌, length, map, Option, Some, if◌then◌else◌}
use Rattle.std.specs.List.{join_with_byte, slice_split}
use Rattle.std.specs.Option.{option_and_then}
use Rattle.nms_quote.specs.Members.{has_part, nobody, with_part}
use Rattle.nms_quote.specs.Roster.{Listing, Name, part_text, place_in}
use Rattle.nms_lines.specs.Layout.{Record, field}

-- the names that a text joins: the parts between its pluses
abbrev pub joined_names : List ℕ → List Name
joined_names text = slice_split (λ byte. byte == 43) text

-- a set and the participants of these names too, if each of them is on the roster
unfoldable pub with_named : Listing → List Name → ℕ → Option ℕ
with_named roster [] set = Some set
with_named roster (name ∷ names) set = option_and_then (λ part. with_named roster names (with_part set part)) (place_in roster.parts name)

-- the participants that a text names
abbrev pub named_in : Listing → List ℕ → Option ℕ
named_in roster text = with_named roster (joined_names text) nobody

-- the participants that a record's last field names, if it is at that place. A shorter record names none
abbrev pub named_at : ℕ → Listing → Record → Option ℕ
named_at place roster fields = if length fields == place + 1 then named_in roster (field fields place) else Some nobody

-- each member of a set is below that place
abbrev pub AreBelow : ℕ → ℕ → Type 0
AreBelow count set = (place : ℕ) → has_part set place ≡ true → place < count

-- the members of a set below a place, in order
unfoldable pub members_below : ℕ → ℕ → List ℕ
members_below zero set = []
members_below (suc place) set = members_below place set ++ (if has_part set place then place ∷ [] else [])

-- the names of a set's participants, by place, joined
abbrev pub names_text : Listing → ℕ → List ℕ
names_text roster set = join_with_byte 43 (map (part_text roster) (members_below (length roster.parts) set))

-- the field that names them, if there are any
abbrev pub named_fields : Listing → ℕ → Record
named_fields roster set = if set == nobody then [] else names_text roster set ∷ []
