-- A table of names, as the entries of the map that holds it.
use Rattle.std.proofs.Common.{◌≡◌, ℕ, zero, suc, ◌+◌, ◌<◌, Bool, true, false, cond, not, nat_lt, List, [], ◌∷◌, ◌++◌, map, slice_get}
use Rattle.std.proofs.Common.{position, Option, Some, None, option_map, is_some, refl, sym, ap, subst, ◌∙◌, true≢false, lit<, arith, length}
use Rattle.std.specs.Prelude.{unwrap_or}
use Rattle.std.proofs.lemmas.Bool.{and_parts, false_from_ne_true}
use Rattle.std.proofs.lemmas.Bool.Decides.{nat_tests}
use Rattle.std.proofs.lemmas.List.{length-map, map-append}
use Rattle.std.proofs.lemmas.Option.{same_Some, none-some, slice_get-get_or, slice_get-map}
use Rattle.std.proofs.lemmas.Slice.Eq.{bytes_eq-Decides}
use Rattle.std.proofs.lemmas.Str.{IsUtf8-string_bytes, IsUtf8-from_ascii}
use Rattle.std.specs.List.{list_all, position_or_len, IsDistinct}
use Rattle.std.specs.Map.{keys_of, lookup}
use Rattle.std.specs.Str.{bytes_eq, IsAscii, IsUtf8}
use Rattle.std.specs.String.{string_bytes, string_eq, string_eq_equiv}
use Rattle.std.specs.declared.string.String.{String}
use Rattle.indexmap.specs.IndexMap.{IndexMap, insert_entry}
use Rattle.indexmap.proofs.CallerLemmas.{insert_entry-new}
use Rattle.indexmap.proofs.MapLemmas.{some_index, index-first}
use Rattle.indexmap.proofs.RemoveLemmas.{own_first}
use Rattle.nms_quote.specs.Names.{named}
use Rattle.nms_quote.specs.Roster.{Name, place_in, is_name_char, is_symbol_char, is_name_of, is_part_name, is_symbol_name}

none_from_is_some : {A : Type 0} (o : Option A) → is_some o ≡ false → o ≡ None
none_from_is_some None h = refl
none_from_is_some (Some x) h = absurd (true≢false h)

module _ {X Y : Type 0} (passes : Y → Bool) (f : X → Y) where
  position_or_len-map : (xs : List X) → position_or_len passes (map f xs) ≡ position_or_len (λ x. passes (f x)) xs
  position_or_len-map [] = refl
  position_or_len-map (x ∷ xs) = ap (λ n. cond (not (passes (f x))) (1 + n) 0) (position_or_len-map xs)

  -- the first place that passes, seen through a map
  pub position-map : (xs : List X) → position passes (map f xs) ≡ position (λ x. passes (f x)) xs
  position-map xs =
      λ j. cond (nat_lt (position_or_len-map xs j) (length-map xs f j)) (Some (position_or_len-map xs j)) None

abbrev text_entry : {Y Z : Type 0} → String Y × Z → Name × Z
text_entry entry = (string_bytes entry.0, entry.1)

abbrev name_of : {Z : Type 0} → Option (Name × Z) → Option Name
name_of entry = option_map (λ e. e.0) entry

module _ {Y Z : Type 0} where
  -- a look-up by name looks at the keys' texts
  pub place_in-named : (name : Name) (entries : List (String Y × Z))
      → place_in (named entries) name ≡ position (λ key. bytes_eq name (string_bytes key)) (keys_of entries)
  place_in-named name entries =
      position-map (λ entry. bytes_eq name entry.0) (λ entry. (string_bytes entry.0, entry.1)) entries
      ∙ sym (position-map (λ key. bytes_eq name (string_bytes key)) (λ entry. entry.0) entries)

  lookup-not_utf8 : (name : Name) → (IsUtf8 name → ⊥) → (entries : List (String Y × Z))
      → lookup (λ key. bytes_eq name (string_bytes key)) entries ≡ None
  lookup-not_utf8 name invalid [] = refl
  lookup-not_utf8 name invalid (entry ∷ entries) =
      let other : bytes_eq name (string_bytes entry.0) ≡ false =
      false_from_ne_true _ (λ same. invalid (subst IsUtf8 (sym ((bytes_eq-Decides name (string_bytes entry.0)).0 same))
      (IsUtf8-string_bytes entry.0))) in
      ap (λ b. cond b (Some entry.1) (lookup (λ key. bytes_eq name (string_bytes key)) entries)) other
      ∙ lookup-not_utf8 name invalid entries

  -- bytes that are not text are no entry's name
  pub place_in-not_utf8 : (name : Name) (entries : List (String Y × Z)) → (IsUtf8 name → ⊥) → place_in (named entries) name ≡ None
  place_in-not_utf8 name entries invalid =
      place_in-named name entries
      ∙ none_from_is_some _ (some_index (λ key. bytes_eq name (string_bytes key)) entries
      ∙ ap is_some (lookup-not_utf8 name invalid entries))

  -- the name at a place is the text of the key there
  pub name_at-named : (entries : List (String Y × Z)) (table : List (Name × Z)) → named entries ≡ table
      → (place : ℕ) (key : String Y) (value : Z) → slice_get entries place ≡ Some (key, value)
      → option_map (λ entry. entry.0) (slice_get table place) ≡ Some (string_bytes key)
  name_at-named entries table is place key value at =
      ap (λ t. name_of (slice_get t place)) (sym is) ∙ ap name_of (slice_get-map text_entry entries place ∙ ap (option_map text_entry) at)

  -- and is found there
  pub place_in-own : (entries : List (String Y × Z)) → IsDistinct string_eq (keys_of entries) → (table : List (Name × Z))
      → named entries ≡ table → (place : ℕ) (name : Name) → option_map (λ entry. entry.0) (slice_get table place) ≡ Some name
      → place_in table name ≡ Some place
  place_in-own entries unique table is place name at = by (slice_get entries place) refl
    where
      by : (entry : Option (String Y × Z)) → slice_get entries place ≡ entry → place_in table name ≡ Some place
      by None here = absurd (none-some name (ap (λ e. name_of (option_map text_entry e)) (sym here)
          ∙ ap name_of (sym (slice_get-map text_entry entries place)) ∙ ap (λ t. name_of (slice_get t place)) is ∙ at))
      by (Some (key, value)) here =
          let same : string_bytes key ≡ name = same_Some _ _ (sym (name_at-named entries table is place key value here) ∙ at) in
          ap (place_in table) (sym same) ∙ ap (λ t. place_in t (string_bytes key)) (sym is) ∙ place_in-named (string_bytes key) entries
          ∙ index-first (string_eq key) entries place (own_first string_eq string_eq_equiv entries place key value unique here)

-- a new name goes last
pub named-insert_entry : {Y Z S : Type 0} (m : IndexMap (String Y) Z S) (table : List (Name × Z)) → named m.entries ≡ table
    → (key : String Y) (value : Z) (name : Name) → string_bytes key ≡ name → place_in table name ≡ None → (entries : List (String Y × Z))
    → entries ≡ insert_entry string_eq m.entries key value → named entries ≡ table ++ (name, value) ∷ []
named-insert_entry m table is key value name same absent entries inserted =
    let sought : place_in (named m.entries) (string_bytes key) ≡ None = ap (λ t. place_in t (string_bytes key)) is
    ∙ ap (place_in table) same ∙ absent in
    let nowhere : lookup (string_eq key) m.entries ≡ None =
    none_from_is_some _ (sym (some_index (string_eq key) m.entries)
    ∙ ap is_some (sym (place_in-named (string_bytes key) m.entries) ∙ sought)) in
    ap named (inserted ∙ insert_entry-new string_eq m key value nowhere)
    ∙ map-append text_entry m.entries ((key, value) ∷ [])
    ∙ ap (λ t. t ++ (string_bytes key, value) ∷ []) is
    ∙ ap (λ n. table ++ (n, value) ∷ []) same

-- a test that every name passes, the name at a place passes
pub passes_at : {Z : Type 0} (passes : Name → Bool) (entries : List (Name × Z)) (place : ℕ) (name : Name)
    → list_all (λ entry. passes entry.0) entries ≡ true → option_map (λ entry. entry.0) (slice_get entries place) ≡ Some name
    → passes name ≡ true
passes_at passes [] place name all at = absurd (true≢false (sym (ap is_some at)))
passes_at passes (entry ∷ entries) zero name all at =
    subst (λ n. passes n ≡ true) (same_Some entry.0 name at) (and_parts (passes entry.0) (list_all (λ e. passes e.0) entries) all).0
passes_at passes (entry ∷ entries) (suc place) name all at =
    passes_at passes entries place name (and_parts (passes entry.0) (list_all (λ e. passes e.0) entries) all).1 at

-- names of characters below 128 are ASCII
pub IsAscii-from_list_all : (passes : ℕ → Bool) → ((c : ℕ) → passes c ≡ true → c < 128) → (name : Name) → list_all passes name ≡ true
    → IsAscii name
IsAscii-from_list_all passes small [] all zero = lit< tt
IsAscii-from_list_all passes small [] all (suc i) = lit< tt
IsAscii-from_list_all passes small (c ∷ cs) all zero = small c (and_parts (passes c) (list_all passes cs) all).0
IsAscii-from_list_all passes small (c ∷ cs) all (suc i) =
    IsAscii-from_list_all passes small cs (and_parts (passes c) (list_all passes cs) all).1 i

is_name_char-small : (c : ℕ) → is_name_char c ≡ true → c < 128
is_name_char-small c h = grind (arith, nat_tests)

is_symbol_char-small : (c : ℕ) → is_symbol_char c ≡ true → c < 128
is_symbol_char-small c h = grind (arith, nat_tests)

IsUtf8-from_name : (passes : ℕ → Bool) → ((c : ℕ) → passes c ≡ true → c < 128) → (most : ℕ) (name : Name)
    → is_name_of passes most name ≡ true → IsUtf8 name
IsUtf8-from_name passes small most name h =
    IsUtf8-from_ascii name (IsAscii-from_list_all passes small name (and_parts _ _ h).1)

-- names of these forms are text
pub IsUtf8-part_name : (name : Name) → is_part_name name ≡ true → IsUtf8 name
IsUtf8-part_name name h = IsUtf8-from_name is_name_char is_name_char-small 4 name h

pub IsUtf8-symbol_name : (name : Name) → is_symbol_name name ≡ true → IsUtf8 name
IsUtf8-symbol_name name h = IsUtf8-from_name is_symbol_char is_symbol_char-small 8 name h

-- an entry's name is the name at its place
pub named_at : {Z : Type 0} (entries : List (Name × Z)) (place : ℕ) → place < length entries
    → option_map (λ entry. entry.0) (slice_get entries place)
    ≡ Some (unwrap_or (option_map (λ entry. entry.0) (slice_get entries place)) [])
named_at [] place there = absurd (omega arith)
named_at (first ∷ entries) place there = rw (slice_get-get_or (first ∷ entries) place first there) refl
