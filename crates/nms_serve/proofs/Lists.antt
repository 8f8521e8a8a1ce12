-- Values read one after the other, and elements that are there twice.
use Rattle.std.proofs.Common.{◌≡◌, ◌∙◌, ◌||◌, ◌++◌, Bool, true, false, List, [], ◌∷◌, Option, Some, None}
use Rattle.std.proofs.Common.{map, option_map, option_and_then, refl, ap}
use Rattle.std.proofs.lemmas.List.Folds.{list_any-append}
use Rattle.std.specs.List.{list_any}
use Rattle.clap.specs.Words.{Text}
use Rattle.nms_serve.specs.Values.{each_of, has_twice}

-- what is read of some values and one more
pub each_more : {X : Type 0} (read : Text → Option X) (values : List Text) (value : Text)
    → each_of read (values ++ value ∷ []) ≡ option_and_then (λ xs. option_map (λ x. xs ++ x ∷ []) (read value)) (each_of read values)
each_more {X} read [] value = go (read value)
  where
    go : (last : Option X) → option_and_then (λ x. option_map (λ xs. x ∷ xs) (Some [])) last ≡ option_map (λ x. [] ++ x ∷ []) last
    go None = refl
    go (Some x) = refl
each_more {X} read (first ∷ rest) value =
    ap (λ (all : Option (List X)). option_and_then (λ x. option_map (λ xs. x ∷ xs) all) (read first)) (each_more read rest value)
    ∙ go (read first) (each_of read rest) (read value)
  where
    go : (one : Option X) (all : Option (List X)) (last : Option X)
        → option_and_then (λ x. option_map (λ xs. x ∷ xs) (option_and_then (λ xs. option_map (λ y. xs ++ y ∷ []) last) all)) one
        ≡ option_and_then (λ xs. option_map (λ y. xs ++ y ∷ []) last) (option_and_then (λ x. option_map (λ xs. x ∷ xs) all) one)
    go None all last = refl
    go (Some x) None last = refl
    go (Some x) (Some xs) None = refl
    go (Some x) (Some xs) (Some y) = refl

-- one more element is there twice if it is among those before it
pub twice_more : {X : Type 0} (same : X → X → Bool) (xs : List X) (x : X)
    → has_twice same (xs ++ x ∷ []) ≡ (has_twice same xs || list_any (λ y. same y x) xs)
twice_more same [] x = refl
twice_more same (y ∷ ys) x =
    (λ i. list_any-append (same y) ys (x ∷ []) i || twice_more same ys x i)
    ∙ go (list_any (same y) ys) (same y x) (has_twice same ys) (list_any (λ z. same z x) ys)
  where
    go : (a b c d : Bool) → ((a || (b || false)) || (c || d)) ≡ ((a || c) || (b || d))
    go true b c d = refl
    go false true true d = refl
    go false true false d = refl
    go false false c d = refl

pub any_map : {X Y : Type 0} (test : Y → Bool) (f : X → Y) (xs : List X) → list_any test (map f xs) ≡ list_any (λ x. test (f x)) xs
any_map test f [] = refl
any_map test f (x ∷ xs) = ap (λ b. test (f x) || b) (any_map test f xs)

pub twice_map : {X Y : Type 0} (same : Y → Y → Bool) (f : X → Y) (xs : List X)
    → has_twice same (map f xs) ≡ has_twice (λ x y. same (f x) (f y)) xs
twice_map same f [] = refl
twice_map same f (x ∷ xs) = λ i. any_map (same (f x)) f xs i || twice_map same f xs i
