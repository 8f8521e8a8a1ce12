-- A name is repeated in an array if and only if some element has the name of an element before it.
use Rattle.std.proofs.Common.{◌≡◌, ℕ, suc, Bool, true, false, ◌||◌, List, [], ◌∷◌, ◌++◌, Option, Some, None, is_some, filter_map}
use Rattle.std.proofs.Common.{option_and_then, if◌then◌else◌, refl, sym, ap, ◌∙◌}
use Rattle.std.specs.List.{cons_option, list_any}
use Rattle.std.specs.Option.{option_map_or}
use Rattle.std.specs.Str.{bytes_eq}
use Rattle.std.proofs.lemmas.Slice.Eq.{bytes_eq-Decides}
use Rattle.toml.specs.Data.{Data}
use Rattle.nms_quote.specs.Roster.{Name}
use Rattle.nms_fees.specs.Places.{has_repeat, name_in}
use Rattle.nms_setup_places.specs.Findings.{first_named, is_named, named_before}

-- some element has the name of an element before it, or of those before the list
abbrev pub is_twice : List Data → List Data → Bool
is_twice before [] = false
is_twice before (row ∷ rows) = is_some (named_before before row) || is_twice (before ++ row ∷ []) rows

-- ---- tests of lists

or_assoc : (x y z : Bool) → ((x || y) || z) ≡ (x || (y || z))
or_assoc true y z = refl
or_assoc false y z = refl

or_none : (x : Bool) → (x || false) ≡ x
or_none true = refl
or_none false = refl

-- the second and the third of four change places
or_swap : (a b c d : Bool) → (a || ((b || c) || d)) ≡ ((a || b) || (c || d))
or_swap true b c d = refl
or_swap false true c d = refl
or_swap false false c d = refl

any-same : {X : Type 0} (f g : X → Bool) → ((x : X) → f x ≡ g x) → (xs : List X) → list_any f xs ≡ list_any g xs
any-same f g same [] = refl
any-same f g same (x ∷ xs) = ap (λ b. b || list_any f xs) (same x) ∙ ap (λ b. g x || b) (any-same f g same xs)

any-none : {X : Type 0} (xs : List X) → list_any (λ _. false) xs ≡ false
any-none [] = refl
any-none (x ∷ xs) = any-none xs

any-append : {X : Type 0} (test : X → Bool) (first : List X) (last : X)
    → list_any test (first ++ last ∷ []) ≡ (list_any test first || test last)
any-append test [] last = or_none (test last)
any-append test (x ∷ first) last = ap (λ b. test x || b) (any-append test first last)
    ∙ sym (or_assoc (test x) (list_any test first) (test last))

-- either of two tests
any-either : {X : Type 0} (f g : X → Bool) (xs : List X) → list_any (λ x. f x || g x) xs ≡ (list_any f xs || list_any g xs)
any-either f g [] = refl
any-either f g (x ∷ xs) = ap (λ b. (f x || g x) || b) (any-either f g xs) ∙ by (f x) (g x) (list_any f xs) (list_any g xs)
  where
    by : (a b c d : Bool) → ((a || b) || (c || d)) ≡ ((a || c) || (b || d))
    by true b c d = refl
    by false true true d = refl
    by false true false d = refl
    by false false c d = refl

-- ---- the names of elements

same_name : (a b : Name) → bytes_eq a b ≡ bytes_eq b a
same_name a b = by (bytes_eq a b) (bytes_eq b a) refl refl
  where
    by : (p q : Bool) → bytes_eq a b ≡ p → bytes_eq b a ≡ q → p ≡ q
    by true true e f = refl
    by false false e f = refl
    by true false e f = sym ((bytes_eq-Decides b a).1 (sym ((bytes_eq-Decides a b).0 e))) ∙ f
    by false true e f = sym e ∙ (bytes_eq-Decides a b).1 (sym ((bytes_eq-Decides b a).0 f))

first_found : (name : Name) (before : ℕ) (rows : List Data) → is_some (first_named name before rows) ≡ list_any (is_named name) rows
first_found name before [] = refl
first_found name before (row ∷ rows) = by (is_named name row) (first_found name (suc before) rows)
  where
    by : (b : Bool) → is_some (first_named name (suc before) rows) ≡ list_any (is_named name) rows
        → is_some (if b then Some before else first_named name (suc before) rows) ≡ (b || list_any (is_named name) rows)
    by true rest = refl
    by false rest = rest

-- an element has the name of one of those before it
abbrev hits : List Data → Data → Bool
hits before row = option_map_or (λ name. list_any (is_named name) before) (name_in row) false

hits_found : (before : List Data) (row : Data) → is_some (named_before before row) ≡ hits before row
hits_found before row = by (name_in row)
  where
    by : (own : Option Name) → is_some (option_and_then (λ name. first_named name 0 before) own)
        ≡ option_map_or (λ name. list_any (is_named name) before) own false
    by None = refl
    by (Some name) = first_found name 0 before

-- a later element has the name of this one
abbrev is_like : Data → Data → Bool
is_like row later = option_map_or (λ name. is_named name row) (name_in later) false

hits-more : (before : List Data) (row later : Data) → hits (before ++ row ∷ []) later ≡ (hits before later || is_like row later)
hits-more before row later = by (name_in later)
  where
    by : (own : Option Name) → option_map_or (λ name. list_any (is_named name) (before ++ row ∷ [])) own false
        ≡ (option_map_or (λ name. list_any (is_named name) before) own false || option_map_or (λ name. is_named name row) own false)
    by None = refl
    by (Some name) = any-append (is_named name) before row

-- the names of an element and of those after it
abbrev repeated : List Data → Bool
repeated rows = has_repeat (filter_map name_in rows)

unnamed_like : (row : Data) → name_in row ≡ None → (later : Data) → is_like row later ≡ false
unnamed_like row none later = by (name_in later)
  where
    by : (own : Option Name) → option_map_or (λ name. is_named name row) own false ≡ false
    by None = refl
    by (Some name) = ap (λ its. option_map_or (λ other. bytes_eq other name) its false) none

named_like : (row : Data) (name : Name) → name_in row ≡ Some name → (rows : List Data)
    → list_any (is_like row) rows ≡ list_any (λ other. bytes_eq other name) (filter_map name_in rows)
named_like row name some [] = refl
named_like row name some (later ∷ rows) = by (name_in later) refl (named_like row name some rows)
  where
    like : (own : Option Name) → option_map_or (λ its. is_named its row) own false ≡ option_map_or (λ its. bytes_eq its name) own false
    like None = refl
    like (Some its) = ap (λ found. option_map_or (λ other. bytes_eq other its) found false) some ∙ same_name name its

    by : (own : Option Name) → name_in later ≡ own
        → list_any (is_like row) rows ≡ list_any (λ other. bytes_eq other name) (filter_map name_in rows)
        → list_any (is_like row) (later ∷ rows) ≡ list_any (λ other. bytes_eq other name) (filter_map name_in (later ∷ rows))
    by None e rest = ap (λ own. option_map_or (λ its. is_named its row) own false || list_any (is_like row) rows) e
        ∙ rest
        ∙ ap (λ own. list_any (λ other. bytes_eq other name) (cons_option own (filter_map name_in rows))) (sym e)
    by (Some its) e rest = ap (λ own. option_map_or (λ its. is_named its row) own false || list_any (is_like row) rows) e
        ∙ ap (λ b. b || list_any (is_like row) rows) (like (Some its))
        ∙ ap (λ b. bytes_eq its name || b) rest
        ∙ ap (λ own. list_any (λ other. bytes_eq other name) (cons_option own (filter_map name_in rows))) (sym e)

repeated-more : (row : Data) (rows : List Data) → (list_any (is_like row) rows || repeated rows) ≡ repeated (row ∷ rows)
repeated-more row rows = by (name_in row) refl
  where
    by : (own : Option Name) → name_in row ≡ own → (list_any (is_like row) rows || repeated rows) ≡ repeated (row ∷ rows)
    by None e = ap (λ b. b || repeated rows) (any-same (is_like row) (λ _. false) (unnamed_like row e) rows ∙ any-none rows)
        ∙ ap (λ own. has_repeat (cons_option own (filter_map name_in rows))) (sym e)
    by (Some name) e = ap (λ b. b || repeated rows) (named_like row name e rows)
        ∙ ap (λ own. has_repeat (cons_option own (filter_map name_in rows))) (sym e)

-- ---- the two ways to look for a repeated name

twice-or-before : (before rows : List Data) → is_twice before rows ≡ (list_any (hits before) rows || repeated rows)
twice-or-before before [] = refl
twice-or-before before (row ∷ rows) =
    ap (λ b. b || is_twice (before ++ row ∷ []) rows) (hits_found before row)
    ∙ ap (λ b. hits before row || b) (twice-or-before (before ++ row ∷ []) rows)
    ∙ ap (λ b. hits before row || (b || repeated rows))
    (any-same (hits (before ++ row ∷ [])) (λ later. hits before later || is_like row later) (hits-more before row) rows
    ∙ any-either (hits before) (is_like row) rows)
    ∙ or_swap (hits before row) (list_any (hits before) rows) (list_any (is_like row) rows) (repeated rows)
    ∙ ap (λ b. (hits before row || list_any (hits before) rows) || b) (repeated-more row rows)

pub twice_repeated : (rows : List Data) → is_twice [] rows ≡ repeated rows
twice_repeated rows = twice-or-before [] rows ∙ ap (λ b. b || repeated rows) (any-same (hits []) (λ _. false) none rows ∙ any-none rows)
  where
    none : (row : Data) → hits [] row ≡ false
    none row = by (name_in row)
      where
        by : (own : Option Name) → option_map_or (λ name. list_any (is_named name) []) own false ≡ false
        by None = refl
        by (Some name) = refl
