-- A table of a document, and an array, with the map and the vector that hold them.
use Rattle.std.proofs.Common.{◌≡◌, ℕ, suc, List, [], ◌∷◌, String, Global, string_bytes, map, length, refl, ap}
use Rattle.std.specs.Map.{keys_of}
use Rattle.toml.specs.View.{items_view, members_view, view}
use Rattle.toml.specs.declared.value.Value.{Value}
use Rattle.nms_import.specs.Drafts.{listed, names_in}

-- the names of a table, as the map has them
pub names_view : (entries : List (String Global × Value)) → names_in (members_view entries) ≡ map string_bytes (keys_of entries)
names_view [] = refl
names_view (entry ∷ entries) = ap (λ rest. string_bytes entry.0 ∷ rest) (names_view entries)

-- how many there are
pub names_length : (entries : List (String Global × Value)) → length (names_in (members_view entries)) ≡ length entries
names_length [] = refl
names_length (entry ∷ entries) = ap (λ n. suc n) (names_length entries)

-- the elements of an array, as the vector has them
pub listed_view : (items : List Value) → listed (items_view items) ≡ map view items
listed_view [] = refl
listed_view (item ∷ items) = ap (λ rest. view item ∷ rest) (listed_view items)
