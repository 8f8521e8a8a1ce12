-- A table of a document with the map that holds it.
use Rattle.std.proofs.Common.{◌≡◌, Bool, ◌||◌, List, [], ◌∷◌, String, Global, string_bytes, map, refl, ap}
use Rattle.std.specs.List.{list_any}
use Rattle.std.specs.Map.{keys_of}
use Rattle.toml.specs.View.{items_view, members_view, view}
use Rattle.toml.specs.declared.value.Value.{Value}
use Rattle.nms_quote.specs.Roster.{Name}
use Rattle.nms_fees.specs.Places.{keys_in, listed}

-- a test of a table's keys, as the map has them
pub any_key-view : (p : Name → Bool) (entries : List (String Global × Value))
    → list_any p (keys_in (members_view entries)) ≡ list_any (λ key. p (string_bytes key)) (keys_of entries)
any_key-view p [] = refl
any_key-view p (entry ∷ entries) = ap (λ rest. p (string_bytes entry.0) || rest) (any_key-view p entries)

-- the elements of an array, as the vector has them
pub listed-view : (rows : List Value) → listed (items_view rows) ≡ map view rows
listed-view [] = refl
listed-view (row ∷ rows) = ap (λ rest. view row ∷ rest) (listed-view rows)
