-- Participants named in one field: how names are read one by one, how they are written one by one, and that what is
-- written is read as the same set.
use Rattle.std.proofs.Common.{arith, ℕ, zero, suc, ◌≡◌, ◌+◌, ◌<◌, ◌≤◌, ◌==◌, ◌||◌, Bool, true, false, All, List, [], ◌∷◌, ◌++◌, length, map}
use Rattle.std.proofs.Common.{take, drop, get_or, add-one, refl, sym, ap, ◌∙◌, inl, inr, append_assoc, Option, Some, None, if◌then◌else◌}
use Rattle.std.specs.Int.{bit_at}
use Rattle.std.specs.List.{join_with_byte, list_all}
use Rattle.std.specs.Option.{option_and_then}
use Rattle.std.proofs.lemmas.Bool.{and_parts, cases_Bool, cases_eq, cases_lt, eq-eqb, ne_eqb}
use Rattle.std.proofs.lemmas.Bool.Decides.{nat_tests}
use Rattle.std.proofs.lemmas.List.{append-nil, length-map, map-append, take-append-drop, take_more}
use Rattle.std.proofs.lemmas.List.Elements.{All-append, All-cons, All-head, All-map, All-nil, All-tail}
use Rattle.std.proofs.lemmas.List.Splits.{slice_split_at, slice_split_none}
use Rattle.std.proofs.lemmas.Nat.Bits.{bit_at-lt, same_from_bits}
use Rattle.nms_quote.specs.Members.{has_part, nobody, with_part}
use Rattle.nms_quote.specs.Roster.{Listing, Name, is_name_char, is_part_name, part_text, place_in}
use Rattle.nms_quote.proofs.Offered.{digit_told, has-nobody, has-with}
use Rattle.nms_lines.specs.Named.{AreBelow, joined_names, members_below, named_in, names_text, with_named}

-- ---- names that are read

named_append : (roster : Listing) (xs ys : List Name) (set : ℕ)
    → with_named roster (xs ++ ys) set ≡ option_and_then (λ s. with_named roster ys s) (with_named roster xs set)
unfolding with_named
named_append roster [] ys set = refl
named_append roster (x ∷ xs) ys set = first (place_in roster.parts x) (λ part. named_append roster xs ys (with_part set part))
  where
    first : (found : Option ℕ) → ((part : ℕ) → with_named roster (xs ++ ys) (with_part set part)
        ≡ option_and_then (λ s. with_named roster ys s) (with_named roster xs (with_part set part)))
        → option_and_then (λ part. with_named roster (xs ++ ys) (with_part set part)) found
        ≡ option_and_then (λ s. with_named roster ys s) (option_and_then (λ part. with_named roster xs (with_part set part)) found)
    first None more = refl
    first (Some part) more = more part

named_one : (roster : Listing) (name : Name) (set part : ℕ) → place_in roster.parts name ≡ Some part
    → with_named roster (name ∷ []) set ≡ Some (with_part set part)
unfolding with_named
named_one roster name set part found = ap (option_and_then (λ p. with_named roster [] (with_part set p))) found

-- one name more
pub named_turn : {A : Type 0} (v : A → Name) (roster : Listing) (seen : List A) (x : A) (set part : ℕ)
    → with_named roster (map v seen) nobody ≡ Some set
    → place_in roster.parts (v x) ≡ Some part → with_named roster (map v (seen ++ x ∷ [])) nobody ≡ Some (with_part set part)
named_turn v roster seen x set part was found =
    ap (λ names. with_named roster names nobody) (map-append v seen (x ∷ []))
    ∙ named_append roster (map v seen) (v x ∷ []) nobody
    ∙ ap (option_and_then (λ s. with_named roster (v x ∷ []) s)) was
    ∙ named_one roster (v x) set part found

none_first : (roster : Listing) (name : Name) (names : List Name) (set : ℕ) → place_in roster.parts name ≡ None
    → with_named roster (name ∷ names) set ≡ None
unfolding with_named
none_first roster name names set none = ap (option_and_then (λ p. with_named roster names (with_part set p))) none

-- a name that is not on the roster
pub named_stop : (roster : Listing) (all : List Name) (n : ℕ) (name : Name) (set : ℕ) → n < length all → name ≡ get_or all n name
    → with_named roster (take n all) nobody ≡ Some set
    → place_in roster.parts name ≡ None → with_named roster all nobody ≡ None
named_stop roster all n name set within is was none =
    let rest : List Name = drop (n + 1) all in
    let front : take (n + 1) all ≡ take n all ++ name ∷ [] = take_more all n name within
    ∙ ap (λ (one : Name). take n all ++ one ∷ []) (sym is) in
    let parts : all ≡ take n all ++ name ∷ rest =
    sym (take-append-drop (n + 1) all) ∙ ap (λ (names : List Name). names ++ rest) front ∙ append_assoc (take n all) (name ∷ []) rest in
    ap (λ (names : List Name). with_named roster names nobody) parts
    ∙ named_append roster (take n all) (name ∷ rest) nobody
    ∙ ap (option_and_then (λ s. with_named roster (name ∷ rest) s)) was
    ∙ none_first roster name rest set none

-- a set with one more participant of the roster
pub below_with : (count set part : ℕ) → AreBelow count set → part < count → AreBelow count (with_part set part)
below_with count set part below within place is =
    elim (cases_eq place part) [
      | inl same ↦ rw same within
      | inr other ↦
          let kept : (place == part || has_part set place) ≡ has_part set place = rw (ne_eqb place part other) refl in
          below place (sym kept ∙ sym (has-with set part place) ∙ is)
    ]

pub below_nobody : (count : ℕ) → AreBelow count nobody
below_nobody count place is = absurd (cc (sym (has-nobody place) ∙ is))

-- ---- sets by their members

same_members : (one other : ℕ) → ((place : ℕ) → has_part one place ≡ has_part other place) → one ≡ other
unfolding has_part
same_members one other same = same_from_bits one other
    (λ i. digit_told (bit_at one i) (bit_at other i) (bit_at-lt one i) (bit_at-lt other i) (same i))

-- a set and these participants too
abbrev with_all : List ℕ → ℕ → ℕ
with_all [] set = set
with_all (part ∷ parts) set = with_all parts (with_part set part)

with_all-append : (xs ys : List ℕ) (set : ℕ) → with_all (xs ++ ys) set ≡ with_all ys (with_all xs set)
with_all-append [] ys set = refl
with_all-append (x ∷ xs) ys set = with_all-append xs ys (with_part set x)

-- the members of one set below a place are the members of the other
record IsMade (count set made : ℕ) : Type 0 where
  inside : (place : ℕ) → place < count → has_part made place ≡ has_part set place
  outside : (place : ℕ) → count ≤ place → has_part made place ≡ false

made_more : (n set made : ℕ) (b : Bool) → has_part set n ≡ b → IsMade n set made
    → IsMade (suc n) set (with_all (if b then n ∷ [] else []) made)
made_more n set made true here was = record {
  inside = λ place below. elim (cases_eq place n) [
    | inl same ↦
        let first : (place == n || has_part made place) ≡ true = rw (eq-eqb place n same) refl in
        has-with made n place ∙ first ∙ sym (ap (has_part set) same ∙ here)
    | inr other ↦
        let kept : (place == n || has_part made place) ≡ has_part made place = rw (ne_eqb place n other) refl in
        has-with made n place ∙ kept ∙ was.inside place (omega (arith, below, other))
  ];
  outside = λ place above.
      let kept : (place == n || has_part made place) ≡ has_part made place = rw (ne_eqb place n (omega (arith, above))) refl in
      has-with made n place ∙ kept ∙ was.outside place (omega (arith, above));
}
made_more n set made false here was = record {
  inside = λ place below. elim (cases_eq place n) [
    | inl same ↦ was.outside place (omega (arith, same)) ∙ sym (ap (has_part set) same ∙ here)
    | inr other ↦ was.inside place (omega (arith, below, other))
  ];
  outside = λ place above. was.outside place (omega (arith, above));
}

made_below : (n set : ℕ) → IsMade n set (with_all (members_below n set) nobody)
unfolding members_below
made_below zero set = record { inside = λ place below. absurd (omega (arith, below)); outside = λ place above. has-nobody place }
made_below (suc n) set =
    let tail : List ℕ = if has_part set n then n ∷ [] else [] in
    rw (with_all-append (members_below n set) tail nobody)
    (made_more n set (with_all (members_below n set) nobody) (has_part set n) refl (made_below n set))

not_there : (count set place : ℕ) → AreBelow count set → count ≤ place → has_part set place ≡ false
not_there count set place below above =
    elim (cases_Bool (has_part set place)) [ inl is ↦ absurd (omega (arith, below place is, above)) | inr not ↦ not ]

-- a set is made of its members
made_same : (count set : ℕ) → AreBelow count set → with_all (members_below count set) nobody ≡ set
made_same count set below =
    let made = made_below count set in
    same_members (with_all (members_below count set) nobody) set (λ place. elim (cases_lt place count) [
      | inl inside ↦ made.inside place inside
      | inr outside ↦ made.outside place outside ∙ sym (not_there count set place below outside)
    ])

members_within : (n set : ℕ) → All (λ place. place < n) (members_below n set)
unfolding members_below
members_within zero set = All-nil (λ place. place < 0)
members_within (suc n) set =
    All-append (λ place. place < suc n) (members_below n set) (if has_part set n then n ∷ [] else [])
    (λ i d below. omega (arith, members_within n set i d below)) (last (has_part set n))
  where
    last : (b : Bool) → All (λ place. place < suc n) (if b then n ∷ [] else [])
    last true = All-cons (λ place. place < suc n) n [] (omega arith) (All-nil (λ place. place < suc n))
    last false = All-nil (λ place. place < suc n)

some_members : (places : List ℕ) (set : ℕ) → with_all places nobody ≡ set → (set == nobody) ≡ false → 0 < length places
some_members [] set made some = absurd (cc (made, some))
some_members (place ∷ places) set made some = omega arith

-- ---- what is written is read back

not_plus : (c : ℕ) → is_name_char c ≡ true → (c == 43) ≡ false
not_plus c is = grind (arith, nat_tests)

lacks_plus : (name : Name) → list_all is_name_char name ≡ true → All (λ byte. (byte == 43) ≡ false) name
lacks_plus [] formed = All-nil (λ byte. (byte == 43) ≡ false)
lacks_plus (c ∷ name) formed =
    let parts = and_parts (is_name_char c) (list_all is_name_char name) formed in
    All-cons (λ byte. (byte == 43) ≡ false) c name (not_plus c parts.0) (lacks_plus name parts.1)

-- it has only letters and digits
abbrev IsPlainName : Name → Type 0
IsPlainName name = list_all is_name_char name ≡ true

-- names that are joined are cut where they were joined
split_names : (names : List Name) → 0 < length names → All IsPlainName names → joined_names (join_with_byte 43 names) ≡ names
split_names [] some plain = absurd (omega (arith, some))
split_names (x ∷ []) some plain = slice_split_none (λ byte. byte == 43) x (lacks_plus x (All-head IsPlainName x [] plain))
split_names (x ∷ y ∷ names) some plain =
    slice_split_at (λ byte. byte == 43) x 43 (join_with_byte 43 (y ∷ names)) (lacks_plus x (All-head IsPlainName x (y ∷ names) plain)) refl
    ∙ ap (λ (more : List Name). x ∷ more) (split_names (y ∷ names) (omega arith) (All-tail IsPlainName x (y ∷ names) plain))

all_named : (roster : Listing) → ((part : ℕ) → part < length roster.parts → place_in roster.parts (part_text roster part) ≡ Some part)
    → (places : List ℕ) (set : ℕ) → All (λ place. place < length roster.parts) places
    → with_named roster (map (part_text roster) places) set ≡ Some (with_all places set)
unfolding with_named
all_named roster finds [] set within = refl
all_named roster finds (place ∷ places) set within =
    ap (option_and_then (λ part. with_named roster (map (part_text roster) places) (with_part set part)))
    (finds place (All-head (λ p. p < length roster.parts) place places within))
    ∙ all_named roster finds places (with_part set place) (All-tail (λ p. p < length roster.parts) place places within)

pub names_back : (roster : Listing) → ((part : ℕ) → part < length roster.parts → place_in roster.parts (part_text roster part) ≡ Some part)
    → ((part : ℕ) → part < length roster.parts → is_part_name (part_text roster part) ≡ true)
    → (set : ℕ) → AreBelow (length roster.parts) set → (set == nobody) ≡ false → named_in roster (names_text roster set) ≡ Some set
names_back roster finds formed set below some =
    let places : List ℕ = members_below (length roster.parts) set in
    let names : List Name = map (part_text roster) places in
    let within : All (λ place. place < length roster.parts) places = members_within (length roster.parts) set in
    let made : with_all places nobody ≡ set = made_same (length roster.parts) set below in
    let plain : All IsPlainName names =
    All-map IsPlainName (part_text roster) places
    (λ k d there. (and_parts _ (list_all is_name_char (part_text roster (get_or places k d)))
    (formed (get_or places k d) (within k d there))).1) in
    let cut : joined_names (names_text roster set) ≡ names =
    split_names names (omega (arith, length-map places (part_text roster), some_members places set made some)) plain in
    ap (λ (list : List Name). with_named roster list nobody) cut ∙ all_named roster finds places nobody within ∙ ap Some made

-- ---- names that are written

-- the elements before one more
abbrev pub before_next : {A : Type 0} → List A → List ℕ
before_next [] = []
before_next (x ∷ xs) = 43 ∷ []

joined_more : (xs : List Name) (x : Name) → join_with_byte 43 (xs ++ x ∷ []) ≡ join_with_byte 43 xs ++ (before_next xs ++ x)
joined_more [] x = refl
joined_more (y ∷ []) x = refl
joined_more (y ∷ z ∷ zs) x =
    ap (λ (text : List ℕ). y ++ 43 ∷ text) (joined_more (z ∷ zs) x) ∙ sym (append_assoc y (43 ∷ join_with_byte 43 (z ∷ zs)) (43 ∷ x))

before_mapped : {A : Type 0} (f : A → Name) (xs : List A) → before_next (map f xs) ≡ before_next xs
before_mapped f [] = refl
before_mapped f (x ∷ xs) = refl

-- the names of the members below a place
abbrev pub text_below : Listing → ℕ → ℕ → List ℕ
text_below roster place set = join_with_byte 43 (map (part_text roster) (members_below place set))

members_next : (place set : ℕ) → members_below (suc place) set ≡ members_below place set ++ (if has_part set place then place ∷ [] else [])
unfolding members_below
members_next place set = refl

one_more : (place set : ℕ) → members_below (place + 1) set ≡ members_below place set ++ (if has_part set place then place ∷ [] else [])
one_more place set = ap (λ n. members_below n set) (add-one place) ∙ members_next place set

members_in : (place set : ℕ) → has_part set place ≡ true → members_below (place + 1) set ≡ members_below place set ++ place ∷ []
members_in place set is = one_more place set ∙ ap (λ b. members_below place set ++ (if b then place ∷ [] else [])) is

pub members_out : (place set : ℕ) → has_part set place ≡ false → members_below (place + 1) set ≡ members_below place set
members_out place set is = one_more place set ∙ ap (λ b. members_below place set ++ (if b then place ∷ [] else [])) is
    ∙ append-nil (members_below place set)

pub text_more : (roster : Listing) (place set : ℕ) → has_part set place ≡ true
    → text_below roster (place + 1) set ≡ text_below roster place set ++ (before_next (members_below place set) ++ part_text roster place)
text_more roster place set is =
    let members : List ℕ = members_below place set in
    ap (λ (list : List ℕ). join_with_byte 43 (map (part_text roster) list)) (members_in place set is)
    ∙ ap (join_with_byte 43) (map-append (part_text roster) members (place ∷ []))
    ∙ joined_more (map (part_text roster) members) (part_text roster place)
    ∙ ap (λ (text : List ℕ). text_below roster place set ++ (text ++ part_text roster place)) (before_mapped (part_text roster) members)

pub before_more : (place set : ℕ) → has_part set place ≡ true → before_next (members_below (place + 1) set) ≡ 43 ∷ []
before_more place set is = ap before_next (members_in place set is) ∙ behind (members_below place set)
  where
    behind : (list : List ℕ) → before_next (list ++ place ∷ []) ≡ 43 ∷ []
    behind [] = refl
    behind (x ∷ xs) = refl

-- one name more was appended
pub written_more : (roster : Listing) (place set : ℕ) (old mid between first new : List ℕ) → mid ≡ old ++ text_below roster place set
    → between ≡ before_next (members_below place set)
    → first ≡ mid ++ between → new ≡ first ++ part_text roster place → has_part set place ≡ true
    → new ≡ old ++ text_below roster (place + 1) set
written_more roster place set old mid between first new was next begun ended is =
    let name : List ℕ = part_text roster place in
    let before : List ℕ = before_next (members_below place set) in
    ended
    ∙ ap (λ (t : List ℕ). t ++ name) (begun ∙ ap (λ (t : List ℕ). mid ++ t) next)
    ∙ append_assoc mid before name
    ∙ ap (λ (t : List ℕ). t ++ (before ++ name)) was
    ∙ append_assoc old (text_below roster place set) (before ++ name)
    ∙ ap (λ (t : List ℕ). old ++ t) (sym (text_more roster place set is))
