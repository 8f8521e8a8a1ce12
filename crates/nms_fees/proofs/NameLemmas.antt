-- Repeated names.
use Rattle.std.proofs.Common.{◌≡◌, ℕ, ◌+◌, ◌<◌, Bool, true, false, not, ◌||◌, List, [], ◌∷◌, ◌++◌, length, take, drop, get_or, map, Some}
use Rattle.std.proofs.Common.{None, Bor, refl, ap, ◌∙◌, sym, append-nil, if◌then◌else◌}
use Rattle.std.proofs.lemmas.Bool.{false≢true}
use Rattle.std.proofs.lemmas.List.{take_more, map-append, take-append-drop}
use Rattle.std.proofs.lemmas.List.Elements.{filter_map-append}
use Rattle.std.proofs.lemmas.List.Folds.{list_any-append}
use Rattle.std.specs.List.{list_any, filter_map}
use Rattle.std.specs.Str.{bytes_eq}
use Rattle.toml.specs.View.{view}
use Rattle.toml.specs.declared.value.Value.{Value}
use Rattle.nms_quote.specs.Roster.{Name}
use Rattle.nms_fees.specs.Places.{name_in, has_repeat}

-- the texts that a set holds
abbrev pub texts : List (Bor Name) → List Name
texts keys = map (λ (key : Bor Name). key.now) keys

-- the names among some elements
abbrev pub names_of : List Value → List Name
names_of rows = filter_map name_in (map view rows)

-- one more name is repeated if it was there before
or_true : (a : Bool) → (a || true) ≡ true
or_true true = refl
or_true false = refl

any_or : (a b c d : Bool) → ((a || (b || false)) || (c || d)) ≡ ((a || c) || (b || d))
any_or true b c d = refl
any_or false true true d = refl
any_or false true false d = refl
any_or false false c d = refl

pub has_repeat-push : (names : List Name) (name : Name)
    → has_repeat (names ++ name ∷ []) ≡ (has_repeat names || list_any (bytes_eq name) names)
has_repeat-push [] name = refl
has_repeat-push (first ∷ names) name =
    rw (list_any-append (λ other. bytes_eq other first) names (name ∷ []), has_repeat-push names name)
    (any_or (list_any (λ other. bytes_eq other first) names) (bytes_eq name first) (has_repeat names) (list_any (bytes_eq name) names))

or_kept : (a b c d : Bool) → (c ≡ true → d ≡ true) → (a || c) ≡ true → ((a || b) || d) ≡ true
or_kept true b c d more h = refl
or_kept false true c d more h = refl
or_kept false false c d more h = more h

-- a name repeated in the front is repeated in the complete list
pub has_repeat-front : (names more : List Name) → has_repeat names ≡ true → has_repeat (names ++ more) ≡ true
has_repeat-front [] more h = absurd (false≢true h)
has_repeat-front (first ∷ names) more h =
    rw (list_any-append (λ other. bytes_eq other first) names more)
    (or_kept (list_any (λ other. bytes_eq other first) names) (list_any (λ other. bytes_eq other first) more) (has_repeat names)
    (has_repeat (names ++ more)) (has_repeat-front names more) h)

-- a test of the texts is one of the keys
any_text : (p : Name → Bool) (keys : List (Bor Name)) → list_any p (texts keys) ≡ list_any (λ (key : Bor Name). p key.now) keys
any_text p [] = refl
any_text p (key ∷ keys) = ap (λ rest. p key.now || rest) (any_text p keys)

-- what an insert returns about the set before it
fresh_from : (stood is_new : Bool) → is_new ≡ not stood → is_new ≡ true → stood ≡ false
fresh_from true is_new e h = absurd (false≢true (sym e ∙ h))
fresh_from false is_new e h = refl

stood_from : (stood is_new : Bool) → is_new ≡ not stood → is_new ≡ false → stood ≡ true
stood_from true is_new e h = refl
stood_from false is_new e h = absurd (false≢true (sym h ∙ e))

-- the names of an array in two parts
names_of-append : (front back : List Value) → names_of (front ++ back) ≡ names_of front ++ names_of back
names_of-append front back = ap (filter_map name_in) (map-append view front back)
    ∙ filter_map-append name_in (map view front) (map view back)

module _ (rows : List Value) (i : ℕ) (row : Value) (within : i < length rows) (here : row ≡ get_or rows i row) where
  pub one_more : take (i + 1) rows ≡ take i rows ++ row ∷ []
  one_more = take_more rows i row within ∙ ap (λ last. take i rows ++ last ∷ []) (sym here)

  -- one more element without a name
  pub names_of-unnamed : name_in (view row) ≡ None → names_of (take (i + 1) rows) ≡ names_of (take i rows)
  names_of-unnamed none = ap names_of one_more ∙ names_of-append (take i rows) (row ∷ []) ∙ rw (none, append-nil (names_of (take i rows)))

  -- one more element with a name
  pub names_of-named : (name : Name) → name_in (view row) ≡ Some name → names_of (take (i + 1) rows) ≡ names_of (take i rows) ++ name ∷ []
  names_of-named name some = ap names_of one_more ∙ names_of-append (take i rows) (row ∷ []) ∙ rw some

  module _ (name : Bor Name) (keys : List (Bor Name)) (some : name_in (view row) ≡ Some name.now)
      (seen : texts keys ≡ names_of (take i rows)) where
    among_seen : list_any (bytes_eq name.now) (names_of (take i rows)) ≡ list_any (λ (key : Bor Name). bytes_eq name.now key.now) keys
    among_seen = ap (list_any (bytes_eq name.now)) (sym seen) ∙ any_text (bytes_eq name.now) keys

    repeats_here : has_repeat (names_of (take (i + 1) rows)) ≡
        (has_repeat (names_of (take i rows)) || list_any (λ (key : Bor Name). bytes_eq name.now key.now) keys)
    repeats_here = ap has_repeat (names_of-named name.now some) ∙ has_repeat-push (names_of (take i rows)) name.now
        ∙ ap (λ b. has_repeat (names_of (take i rows)) || b) among_seen

    -- the name was there before
    pub repeated : (is_new : Bool) → is_new ≡ not (list_any (λ (key : Bor Name). bytes_eq name.now key.now) keys) → is_new ≡ false
        → has_repeat (names_of rows) ≡ true
    repeated is_new told old =
        let front : has_repeat (names_of (take (i + 1) rows)) ≡ true = repeats_here
        ∙ rw (stood_from _ is_new told old) (or_true (has_repeat (names_of (take i rows)))) in
        ap (λ all. has_repeat (names_of all)) (sym (take-append-drop (i + 1) rows))
        ∙ ap has_repeat (names_of-append (take (i + 1) rows) (drop (i + 1) rows))
        ∙ has_repeat-front (names_of (take (i + 1) rows)) (names_of (drop (i + 1) rows)) front

    -- the name is new
    pub learned : (more : List (Bor Name)) (is_new : Bool) → is_new ≡ not (list_any (λ (key : Bor Name). bytes_eq name.now key.now) keys)
        → is_new ≡ true → has_repeat (names_of (take i rows)) ≡ false
        → more ≡ (if list_any (λ (key : Bor Name). bytes_eq name.now key.now) keys then keys else keys ++ name ∷ [])
        → (texts more ≡ names_of (take (i + 1) rows)) × (has_repeat (names_of (take (i + 1) rows)) ≡ false)
    learned more is_new told new once added =
        let fresh = fresh_from _ is_new told new in
        let last : more ≡ keys ++ name ∷ [] = added ∙ rw fresh in (
          ap texts last ∙ map-append (λ (key : Bor Name). key.now) keys (name ∷ []) ∙ ap (λ front. front ++ name.now ∷ []) seen
              ∙ sym (names_of-named name.now some),
          repeats_here ∙ rw (once, fresh),
        )
