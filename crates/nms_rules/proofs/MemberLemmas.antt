-- Membership by recursion, and the words on lists said by it.
use Rattle.std.proofs.Common.{ℕ, zero, suc, ◌≡◌, ◌<◌, Bool, true, false, List, [], ◌∷◌, length, map, get_or, Option, Some, None, All, Any}
use Rattle.std.proofs.Common.{◌⊎◌, inl, inr, refl, ap, sym, ◌∙◌, subst, arith, cond}
use Rattle.std.specs.List.{find, list_any, filter, AllByRecursion}
use Rattle.std.specs.Option.{is_some}
use Rattle.std.proofs.lemmas.Bool.{cases_Bool, both_ways, false≢true, or_parts, or_from, or_cases}
use Rattle.std.proofs.lemmas.List.Elements.{All-from_recursion, recursion_from_All}

-- an element of the list
abbrev pub In : {X : Type 0} → X → List X → Type 0
In x [] = ⊥
In x (y ∷ ys) = (x ≡ y) ⊎ In x ys

-- `All`
In-recursion : {X : Type 0} (P : X → Type 0) (xs : List X) → AllByRecursion P xs → (x : X) → In x xs → P x
In-recursion P [] each x within = absurd within
In-recursion P (y ∷ ys) each x (inl e) = subst P (sym e) each.0
In-recursion P (y ∷ ys) each x (inr within) = In-recursion P ys each.1 x within

recursion-In : {X : Type 0} (P : X → Type 0) (xs : List X) → ((x : X) → In x xs → P x) → AllByRecursion P xs
recursion-In P [] each = tt
recursion-In P (y ∷ ys) each = (each y (inl refl), recursion-In P ys (λ x within. each x (inr within)))

pub In-All : {X : Type 0} (P : X → Type 0) (xs : List X) → All P xs → (x : X) → In x xs → P x
In-All P xs all = In-recursion P xs (recursion_from_All P xs all)

pub All-In : {X : Type 0} (P : X → Type 0) (xs : List X) → ((x : X) → In x xs → P x) → All P xs
All-In P xs each = All-from_recursion P xs (recursion-In P xs each)

-- `Any`
pub Any-In : {X : Type 0} (P : X → Type 0) (xs : List X) (x : X) → In x xs → P x → Any P xs
Any-In P [] x within holds = absurd within
Any-In P (y ∷ ys) x (inl e) holds = (0, y, omega arith, refl, subst P e holds)
Any-In P (y ∷ ys) x (inr within) holds =
    let rest = Any-In P ys x within holds in
    (suc rest.0, rest.1, omega (arith, rest.2), rest.3, rest.4)

In-get_or : {X : Type 0} (xs : List X) (k : ℕ) (d : X) → k < length xs → In (get_or xs k d) xs
In-get_or [] k d below = absurd (omega arith)
In-get_or (x ∷ xs) zero d below = inl refl
In-get_or (x ∷ xs) (suc k) d below = inr (In-get_or xs k d (omega arith))

pub In-Any : {X : Type 0} (P : X → Type 0) (xs : List X) → Any P xs → (x : X) × In x xs × P x
In-Any P xs any = (any.1, subst (λ y. In y xs) any.3 (In-get_or xs any.0 any.1 any.2), any.4)

-- a test of some element
pub list_any-none : {X : Type 0} (p : X → Bool) (xs : List X) → list_any p xs ≡ false → (x : X) → In x xs → p x ≡ false
list_any-none p [] e x within = absurd within
list_any-none p (y ∷ ys) e x (inl same) = ap p same ∙ (or_parts (p y) (list_any p ys) e).0
list_any-none p (y ∷ ys) e x (inr within) = list_any-none p ys (or_parts (p y) (list_any p ys) e).1 x within

pub list_any-false : {X : Type 0} (p : X → Bool) (xs : List X) → ((x : X) → In x xs → p x ≡ false) → list_any p xs ≡ false
list_any-false p [] each = refl
list_any-false p (y ∷ ys) each = or_from (p y) (list_any p ys) (each y (inl refl)) (list_any-false p ys (λ x within. each x (inr within)))

list_any-step : {X : Type 0} (p : X → Bool) (y : X) (ys : List X) → (list_any p ys ≡ true → (x : X) × In x ys × (p x ≡ true))
    → (p y ≡ true) ⊎ (list_any p ys ≡ true) → (x : X) × In x (y ∷ ys) × (p x ≡ true)
list_any-step p y ys later (inl holds) = (y, inl refl, holds)
list_any-step p y ys later (inr some) = let rest = later some in (rest.0, inr rest.1, rest.2)

pub list_any-some : {X : Type 0} (p : X → Bool) (xs : List X) → list_any p xs ≡ true → (x : X) × In x xs × (p x ≡ true)
list_any-some p [] e = absurd (false≢true e)
list_any-some p (y ∷ ys) e = list_any-step p y ys (list_any-some p ys) (or_cases (p y) (list_any p ys) e)

-- the first that passes
some-same : {X : Type 0} (b : Bool) (x y : X) (more : Option X) → b ≡ true → cond b (Some y) more ≡ Some x → y ≡ x
some-same b x y more holds e = search (rw holds at e)

none-some : {X : Type 0} (x : X) → None ≡ Some x → ⊥
none-some x e = false≢true (ap is_some e)

some-none : {X : Type 0} (b : Bool) (y : X) (more : Option X) → b ≡ true → cond b (Some y) more ≡ None → ⊥
some-none b y more holds e = none-some y (sym (rw holds at e))

skipped : {X : Type 0} (b : Bool) (o y more : Option X) → b ≡ false → cond b y more ≡ o → more ≡ o
skipped b o y more fails e = rw fails at e

find-step : {X : Type 0} (p : X → Bool) (y : X) (ys : List X) (x : X) → (find p ys ≡ Some x → In x ys × (p x ≡ true))
    → find p (y ∷ ys) ≡ Some x → (p y ≡ true) ⊎ (p y ≡ false) → In x (y ∷ ys) × (p x ≡ true)
find-step p y ys x later e (inl holds) = let same = some-same (p y) x y (find p ys) holds e in (inl (sym same), ap p (sym same) ∙ holds)
find-step p y ys x later e (inr fails) = let rest = later (skipped (p y) (Some x) (Some y) (find p ys) fails e) in (inr rest.0, rest.1)

pub find-is : {X : Type 0} (p : X → Bool) (xs : List X) (x : X) → find p xs ≡ Some x → In x xs × (p x ≡ true)
find-is p [] x e = absurd (none-some x e)
find-is p (y ∷ ys) x e = find-step p y ys x (find-is p ys x) e (cases_Bool (p y))

find-none-step : {X : Type 0} (p : X → Bool) (y : X) (ys : List X) → find p (y ∷ ys) ≡ None → (p y ≡ true) ⊎ (p y ≡ false)
    → (p y ≡ false) × (find p ys ≡ None)
find-none-step p y ys e (inl holds) = absurd (some-none (p y) y (find p ys) holds e)
find-none-step p y ys e (inr fails) = (fails, skipped (p y) None (Some y) (find p ys) fails e)

pub find-none : {X : Type 0} (p : X → Bool) (xs : List X) → find p xs ≡ None → (x : X) → In x xs → p x ≡ false
find-none p [] e x within = absurd within
find-none p (y ∷ ys) e x (inl same) = ap p same ∙ (find-none-step p y ys e (cases_Bool (p y))).0
find-none p (y ∷ ys) e x (inr within) = find-none p ys (find-none-step p y ys e (cases_Bool (p y))).1 x within

pub find-nothing : {X : Type 0} (p : X → Bool) (xs : List X) → ((x : X) → In x xs → p x ≡ false) → find p xs ≡ None
find-nothing p [] each = refl
find-nothing p (y ∷ ys) each = let fails = each y (inl refl) in rw fails (find-nothing p ys (λ x within. each x (inr within)))

-- a filter and a map
In-filter-step : {X : Type 0} (p : X → Bool) (y : X) (ys : List X) (x : X) → (In x ys → In x (filter p ys)) → p x ≡ true
    → (p y ≡ true) ⊎ (p y ≡ false) → In x (y ∷ ys) → In x (filter p (y ∷ ys))
In-filter-step p y ys x later holds (inl e) (inl same) = rw e (inl same)
In-filter-step p y ys x later holds (inl e) (inr within) = rw e (inr (later within))
In-filter-step p y ys x later holds (inr e) (inl same) = absurd (both_ways (p y) e (ap p (sym same) ∙ holds))
In-filter-step p y ys x later holds (inr e) (inr within) = rw e (later within)

pub In-filter : {X : Type 0} (p : X → Bool) (xs : List X) (x : X) → In x xs → p x ≡ true → In x (filter p xs)
In-filter p [] x within holds = absurd within
In-filter p (y ∷ ys) x within holds = In-filter-step p y ys x (λ later. In-filter p ys x later holds) holds (cases_Bool (p y)) within

In-cond : {X : Type 0} (b : Bool) (x y : X) (ys : List X) → b ≡ true → In x (cond b (y ∷ ys) ys) → (x ≡ y) ⊎ In x ys
In-cond b x y ys e within = rw e at within

In-skipped : {X : Type 0} (b : Bool) (x y : X) (ys : List X) → b ≡ false → In x (cond b (y ∷ ys) ys) → In x ys
In-skipped b x y ys e within = rw e at within

kept-step : {X : Type 0} (p : X → Bool) (y : X) (ys : List X) (x : X) → (In x (filter p ys) → In x ys × (p x ≡ true)) → p y ≡ true
    → (x ≡ y) ⊎ In x (filter p ys) → In x (y ∷ ys) × (p x ≡ true)
kept-step p y ys x later e (inl same) = (inl same, ap p same ∙ e)
kept-step p y ys x later e (inr within) = let rest = later within in (inr rest.0, rest.1)

filter-In-step : {X : Type 0} (p : X → Bool) (y : X) (ys : List X) (x : X) → (In x (filter p ys) → In x ys × (p x ≡ true))
    → (p y ≡ true) ⊎ (p y ≡ false) → In x (filter p (y ∷ ys)) → In x (y ∷ ys) × (p x ≡ true)
filter-In-step p y ys x later (inl e) within = kept-step p y ys x later e (In-cond (p y) x y (filter p ys) e within)
filter-In-step p y ys x later (inr e) within = let rest = later (In-skipped (p y) x y (filter p ys) e within) in (inr rest.0, rest.1)

pub filter-In : {X : Type 0} (p : X → Bool) (xs : List X) (x : X) → In x (filter p xs) → In x xs × (p x ≡ true)
filter-In p [] x within = absurd within
filter-In p (y ∷ ys) x within = filter-In-step p y ys x (filter-In p ys x) (cases_Bool (p y)) within

pub In-map : {X Y : Type 0} (f : X → Y) (xs : List X) (x : X) → In x xs → In (f x) (map f xs)
In-map f [] x within = absurd within
In-map f (y ∷ ys) x (inl same) = inl (ap f same)
In-map f (y ∷ ys) x (inr within) = inr (In-map f ys x within)

pub map-In : {X Y : Type 0} (f : X → Y) (xs : List X) (y : Y) → In y (map f xs) → (x : X) × In x xs × (y ≡ f x)
map-In f [] y within = absurd within
map-In f (x ∷ xs) y (inl same) = (x, inl refl, same)
map-In f (x ∷ xs) y (inr within) = let rest = map-In f xs y within in (rest.0, inr rest.1, rest.2)
