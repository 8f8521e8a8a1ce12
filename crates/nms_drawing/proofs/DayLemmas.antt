-- Days and symbols in their order, marks of what was traded, and names in their order.
use Rattle.std.proofs.Common.{◌≡◌, ◌<◌, ◌≤◌, ◌∷◌, [], ℕ, zero, suc, Bool, true, false, List, Option, None, Some, ap, cond, length, map, not, refl}
use Rattle.std.proofs.Common.{eq-eqb, filter, get_or, replicate, slice_set, sym, ◌∙◌, ◌+◌, ◌-◌, ◌++◌, ◌==◌, ◌&&◌, ◌||◌, arith, take}
use Rattle.std.proofs.Math.Dec.{eqb-zero-suc, eqb-suc-zero, eqb-suc-suc}
use Rattle.std.specs.List.{flat_map, range_with_len}
use Rattle.std.specs.Prelude.{Err, Ok, OnOk, Result}
use Rattle.std.proofs.lemmas.List.{append_assoc, length-set, map-id}
use Rattle.std.proofs.lemmas.List.Elements.{filter-append}
use Rattle.std.proofs.lemmas.List.Folds.{list_any_more}
use Rattle.std.proofs.lemmas.List.FromFn.{fill_by_all, get_or-map-range_with_len, length-map-range_with_len, map-range_with_len_more}
use Rattle.nms_trades.specs.declared.execution.Execution.{Execution}
use Rattle.nms_drawing.specs.Drawn.{day_among, day_if_same, days_among, has_day, is_any_own, is_traded, symbols_among}

-- one name more
pub name_turn : (out whole : List (List ℕ)) (f : ℕ → List ℕ) (place end : ℕ) → place < end
    → out ++ map f (range_with_len place (end - place)) ≡ whole
    → (out ++ f place ∷ []) ++ map f (range_with_len (place + 1) (end - (place + 1))) ≡ whole
name_turn out whole f place end below is =
    let more : end - place ≡ suc (end - (place + 1)) = omega (arith, below) in
    append_assoc out (f place ∷ []) (map f (range_with_len (place + 1) (end - (place + 1))))
    ∙ ap (λ (names : List (List ℕ)). out ++ names) (sym (ap (λ (n : ℕ). map f (range_with_len place n)) more)) ∙ is

-- what holds in any case
pub on_any : {T E : Type 0} (r : Result T E) (P : Type 0) → P → OnOk r P
on_any (Ok t) P holds = holds
on_any (Err e) P holds = tt

-- a page of one symbol has a place for each symbol
pub one_each : (sym n k : ℕ) → length (flat_map (λ (place : ℕ). day_if_same sym place ∷ []) (range_with_len k n)) ≡ n
one_each sym zero k = refl
one_each sym (suc n) k = ap suc (one_each sym n (k + 1))

-- one place more
one_more : (n : ℕ) → range_with_len 0 (n + 1) ≡ range_with_len 0 n ++ n ∷ []
one_more n =
    sym (map-id (range_with_len 0 (n + 1))) ∙ map-range_with_len_more (λ (s : ℕ). s) 0 n n (omega arith)
    ∙ ap (λ (places : List ℕ). places ++ n ∷ []) (map-id (range_with_len 0 n))

more_symbols : (n : ℕ) (has : ℕ → Bool) → symbols_among (n + 1) has ≡ symbols_among n has ++ cond (has n) (n ∷ []) []
more_symbols n has = ap (filter has) (one_more n) ∙ filter-append has (range_with_len 0 n) (n ∷ [])

-- one day more, and its symbol
pub next_day : (n : ℕ) (has : ℕ → Bool) (days : List (Option ℕ)) (symbols : List ℕ) → days ≡ days_among n has → symbols ≡ symbols_among n has
    → days ++ cond (has n) (Some (length symbols)) None ∷ [] ≡ days_among (n + 1) has
next_day n has days symbols before those =
    ap (λ (at : List (Option ℕ)). at ++ cond (has n) (Some (length symbols)) None ∷ []) before
    ∙ ap (λ (at : List ℕ). days_among n has ++ cond (has n) (Some (length at)) None ∷ []) those
    ∙ sym (map-range_with_len_more (day_among has) 0 n n (omega arith))

pub next_symbol : (n : ℕ) (has : ℕ → Bool) (symbols : List ℕ) → symbols ≡ symbols_among n has
    → symbols ++ cond (has n) (n ∷ []) [] ≡ symbols_among (n + 1) has
next_symbol n has symbols those =
    ap (λ (at : List ℕ). at ++ cond (has n) (n ∷ []) []) those ∙ sym (more_symbols n has)

-- what is said alike of each symbol gives the same symbols and days
same_symbols : (n : ℕ) (f g : ℕ → Bool) → ((s : ℕ) → s < n → f s ≡ g s) → symbols_among n f ≡ symbols_among n g
same_symbols zero f g same = refl
same_symbols (suc n) f g same =
    let on : suc n ≡ n + 1 = omega arith in
    ap (λ (m : ℕ). symbols_among m f) on ∙ more_symbols n f
    ∙ ap (λ (at : List ℕ). at ++ cond (f n) (n ∷ []) []) (same_symbols n f g (λ s below. same s (omega (arith, below))))
    ∙ ap (λ (b : Bool). symbols_among n g ++ cond b (n ∷ []) []) (same n (omega arith))
    ∙ sym (more_symbols n g) ∙ sym (ap (λ (m : ℕ). symbols_among m g) on)

same_days : (n : ℕ) (f g : ℕ → Bool) → ((s : ℕ) → s < n → f s ≡ g s) → days_among n f ≡ days_among n g
same_days n f g same = fill_by_all (day_among g) (days_among n f) n None (length-map-range_with_len (day_among f) 0 n)
    (λ k below. get_or-map-range_with_len (day_among f) 0 n k k None below (omega arith)
    ∙ ap (λ (b : Bool). cond b (Some (length (symbols_among k f))) None) (same k below)
    ∙ ap (λ (at : List ℕ). cond (g k) (Some (length at)) None) (same_symbols k f g (λ s before. same s (omega (arith, before, below)))))

-- marks that were written for each symbol
marked_at : (n : ℕ) (has : ℕ → Bool) (s : ℕ) → s < n → get_or (map has (range_with_len 0 n)) s false ≡ has s
marked_at n has s below = get_or-map-range_with_len has 0 n s s false below (omega arith)

pub as_many : (n : ℕ) (has : ℕ → Bool) (marks : List Bool) → marks ≡ map has (range_with_len 0 n) → length marks ≡ n
as_many n has marks are = ap length are ∙ length-map-range_with_len has 0 n

read_marks : (n : ℕ) (has : ℕ → Bool) (marks : List Bool) → marks ≡ map has (range_with_len 0 n)
    → (s : ℕ) → s < n → get_or marks s false ≡ has s
read_marks n has marks are s below = ap (λ (at : List Bool). get_or at s false) are ∙ marked_at n has s below

pub marked_symbols : (n : ℕ) (has : ℕ → Bool) (marks : List Bool) → marks ≡ map has (range_with_len 0 n)
    → symbols_among (length marks) (λ s. get_or marks s false) ≡ symbols_among n has
marked_symbols n has marks are =
    ap (λ (m : ℕ). symbols_among m (λ s. get_or marks s false)) (as_many n has marks are)
    ∙ same_symbols n (λ s. get_or marks s false) has (read_marks n has marks are)

pub marked_days : (n : ℕ) (has : ℕ → Bool) (marks : List Bool) → marks ≡ map has (range_with_len 0 n)
    → days_among (length marks) (λ s. get_or marks s false) ≡ days_among n has
marked_days n has marks are =
    ap (λ (m : ℕ). days_among m (λ s. get_or marks s false)) (as_many n has marks are)
    ∙ same_days n (λ s. get_or marks s false) has (read_marks n has marks are)

-- nothing is changed by no, all by yes
pub or_false : (b : Bool) → (b || false) ≡ b
or_false true = refl
or_false false = refl

pub or_true : (b : Bool) → (b || true) ≡ true
or_true true = refl
or_true false = refl

-- a mark that is written
pub set_marked : (marks : List Bool) (k s : ℕ) → k < length marks → get_or (slice_set marks k true) s false ≡ (get_or marks s false || k == s)
set_marked [] k s below = absurd (omega (arith, below))
set_marked (mark ∷ marks) zero zero below = sym (ap (λ (b : Bool). mark || b) (eq-eqb 0 0 refl) ∙ or_true mark)
set_marked (mark ∷ marks) zero (suc s) below =
    sym (ap (λ (b : Bool). get_or marks s false || b) (eqb-zero-suc s) ∙ or_false (get_or marks s false))
set_marked (mark ∷ marks) (suc k) zero below = sym (ap (λ (b : Bool). mark || b) (eqb-suc-zero k) ∙ or_false mark)
set_marked (mark ∷ marks) (suc k) (suc s) below =
    set_marked marks k s (omega (arith, below)) ∙ sym (ap (λ (b : Bool). get_or marks s false || b) (eqb-suc-suc k s))

-- one execution more
pub more_traded : (all : List Execution) (n : ℕ) (one : Execution) (s : ℕ) → n < length all → one ≡ get_or all n one
    → is_traded (take (n + 1) all) s ≡ (is_traded (take n all) s || (not one.other && one.sym == s))
more_traded all n one s below is =
    list_any_more (λ (execution : Execution). not execution.other && execution.sym == s) all n one below
    ∙ sym (ap (λ (e : Execution). is_traded (take n all) s || (not e.other && e.sym == s)) is)

pub more_own : (all : List Execution) (n : ℕ) (one : Execution) → n < length all → one ≡ get_or all n one
    → is_any_own (take (n + 1) all) ≡ (is_any_own (take n all) || not one.other)
more_own all n one below is =
    list_any_more (λ (execution : Execution). not execution.other) all n one below
    ∙ sym (ap (λ (e : Execution). is_any_own (take n all) || not e.other) is)

-- the first symbol has a day only if none was traded
zero_or : (s : ℕ) → (0 == s) ≡ (s == 0)
zero_or zero = refl
zero_or (suc s) = eqb-zero-suc s ∙ sym (eqb-suc-zero s)

with_first : (b : Bool) → b ≡ (b && true)
with_first true = refl
with_first false = refl

without_first : (b : Bool) → false ≡ (b && false)
without_first true = refl
without_first false = refl

pub first_marked : (marks : List Bool) (all : List Execution) → ((s : ℕ) → get_or marks s false ≡ is_traded all s) → is_any_own all ≡ false
    → 0 < length marks → slice_set marks 0 true ≡ map (has_day all) (range_with_len 0 (length marks))
first_marked marks all are none some =
    fill_by_all (has_day all) (slice_set marks 0 true) (length marks) false (length-set marks 0 true)
    (λ s below. set_marked marks 0 s some ∙ ap (λ (b : Bool). b || 0 == s) (are s)
    ∙ ap (λ (b : Bool). is_traded all s || b) (zero_or s ∙ with_first (s == 0))
    ∙ sym (ap (λ (any : Bool). is_traded all s || (s == 0 && not any)) none))

pub all_marked : (marks : List Bool) (all : List Execution) → ((s : ℕ) → get_or marks s false ≡ is_traded all s) → is_any_own all ≡ true
    → marks ≡ map (has_day all) (range_with_len 0 (length marks))
all_marked marks all are some =
    fill_by_all (has_day all) marks (length marks) false refl
    (λ s below. are s ∙ sym (or_false (is_traded all s))
    ∙ ap (λ (b : Bool). is_traded all s || b) (without_first (s == 0))
    ∙ sym (ap (λ (any : Bool). is_traded all s || (s == 0 && not any)) some))

-- no marks are those of no symbols
pub none_marked : (marks : List Bool) (has : ℕ → Bool) → length marks ≡ 0 → marks ≡ map has (range_with_len 0 (length marks))
none_marked [] has none = refl
none_marked (mark ∷ marks) has none = absurd (omega (arith, none))

-- at first nothing is marked
unmarked : (n s : ℕ) → get_or (replicate n false) s false ≡ false
unmarked zero s = refl
unmarked (suc n) zero = refl
unmarked (suc n) (suc s) = unmarked n s

pub none_yet : (marks : List Bool) (s : ℕ) → marks ≡ replicate (length marks) false → get_or marks s false ≡ false
none_yet marks s are = ap (λ (at : List Bool). get_or at s false) are ∙ unmarked (length marks) s
