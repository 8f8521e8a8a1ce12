-- Names that are looked up one by one, up to the first that is not on the roster.
use Rattle.std.proofs.Common.{arith, rules, ℕ, ◌≡◌, ◌<◌, ◌≤◌, length, Bool, All, List, [], ◌∷◌, ◌++◌, map, refl, sym, subst}
use Rattle.std.proofs.Common.{Option, Some, None, not, true, false}
use Rattle.std.specs.Prelude.{IsSome, is_some}
use Rattle.std.proofs.lemmas.List.{map-append}
use Rattle.std.specs.List.{slice_split}
use Rattle.std.proofs.lemmas.List.Splits.{length-slice_split}
use Rattle.std.proofs.lemmas.List.Sums.{count_by-le-length}
use Rattle.std.proofs.lemmas.List.Elements.{All-append, All-cons, All-nil}
use Rattle.nms_quote.specs.Roster.{Listing, Name}
use Rattle.nms_explain.specs.Names.{IsListed}

pub not_found : (o : Option ℕ) (b : Bool) → is_some o ≡ not b → b ≡ true → o ≡ None
not_found None b told holds = refl
not_found (Some x) true told holds = absurd (cc)
not_found (Some x) false told holds = absurd (cc)

pub found : (o : Option ℕ) (b : Bool) → is_some o ≡ not b → b ≡ false → IsSome o
found None true told fails = absurd (cc)
found None false told fails = absurd (cc)
found (Some x) b told fails = search rules

-- one more name of the list
pub listed_more : {A : Type 0} (v : A → Name) (roster : Listing) (seen : List A) (x : A) → All (IsListed roster) (map v seen)
    → IsListed roster (v x) → All (IsListed roster) (map v (seen ++ x ∷ []))
listed_more v roster seen x was is =
    subst (All (IsListed roster)) (sym (map-append v seen (x ∷ [])))
    (All-append (IsListed roster) (map v seen) (v x ∷ []) was (All-cons (IsListed roster) (v x) [] is (All-nil (IsListed roster))))

-- there are at most as many names after the first as there are bytes
pub within : (p : ℕ → Bool) (text : List ℕ) (n : ℕ) → n < length (slice_split p text) → n ≤ length text
within p text n below = omega (arith, below, length-slice_split p text, count_by-le-length p text)
