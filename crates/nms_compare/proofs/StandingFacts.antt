-- The version at a key, from that of an earlier key on.
use Rattle.std.proofs.Common.{◌≡◌, ℕ, ◌+◌, ◌≤◌, Bool, true, false, List, [], ◌∷◌}
use Rattle.std.proofs.Common.{length, drop, suc, refl, ap, arith, Some, None, cond}
use Rattle.std.specs.Prelude.{nat_lt, position}
use Rattle.std.proofs.lemmas.Bool.Decides.{nat_tests}
use Rattle.nms_compare.specs.Standing.{version_by}

within_at : (keys : List ℕ) (k key : ℕ) (is_later : Bool) → nat_lt key k ≡ is_later → version_by keys key ≤ length keys
    → version_by (k ∷ keys) key ≤ length (k ∷ keys)
within_at keys k key true is more = rw is (omega arith)
within_at keys k key false is more = rw is (omega (arith, more))

-- no more than there are
pub count_within : (keys : List ℕ) (key : ℕ) → version_by keys key ≤ length keys
count_within [] key = omega arith
count_within (k ∷ keys) key = within_at keys k key (nat_lt key k) refl (count_within keys key)

-- what is later than a key is later than an earlier one
still_not : (k key later : ℕ) → key ≤ later → nat_lt key k ≡ false → nat_lt later k ≡ false
still_not k key later le not = grind (arith, nat_tests)

later_at : (keys : List ℕ) (k key later : ℕ) (is_later : Bool) → nat_lt key k ≡ is_later → key ≤ later
    → version_by keys later ≡ version_by keys key + version_by (drop (version_by keys key) keys) later
    → version_by (k ∷ keys) later
    ≡ version_by (k ∷ keys) key + version_by (drop (version_by (k ∷ keys) key) (k ∷ keys)) later
later_at keys k key later true is le more = rw is (omega arith)
later_at keys k key later false is le more =
    let n = version_by keys key in
    let one : 1 + n ≡ suc n = omega arith in
    let rest : version_by (drop (1 + n) (k ∷ keys)) later ≡ version_by (drop n keys) later =
    ap (λ m. version_by (drop m (k ∷ keys)) later) one in
    rw (is, still_not k key later le is) (omega (arith, more, rest))

-- a later key: its version counts those that come first in what is left too
pub version_later : (keys : List ℕ) (key later : ℕ) → key ≤ later
    → version_by keys later ≡ version_by keys key + version_by (drop (version_by keys key) keys) later
version_later [] key later le = refl
version_later (k ∷ keys) key later le = later_at keys k key later (nat_lt key k) refl le (version_later keys key later le)

found_at : (keys : List ℕ) (key place : ℕ) (is_within : Bool) → nat_lt (version_by keys key) (length keys) ≡ is_within
    → Some place ≡ cond is_within (Some (version_by keys key)) None → place ≡ version_by keys key
found_at keys key place true is found = cc
found_at keys key place false is found = absurd (cc)

-- the place of the first later key
pub first_found : (keys : List ℕ) (key place : ℕ) → Some place ≡ position (λ k. nat_lt key k) keys → place ≡ version_by keys key
first_found keys key place found = found_at keys key place (nat_lt (version_by keys key) (length keys)) refl found

none_at : (keys : List ℕ) (key : ℕ) (is_within : Bool) → nat_lt (version_by keys key) (length keys) ≡ is_within
    → version_by keys key ≤ length keys → None ≡ cond is_within (Some (version_by keys key)) None → length keys ≡ version_by keys key
none_at keys key true is few none = absurd (cc)
none_at keys key false is few none = grind (arith, nat_tests)

-- if none is later
pub none_found : (keys : List ℕ) (key : ℕ) → None ≡ position (λ k. nat_lt key k) keys → length keys ≡ version_by keys key
none_found keys key none =
    none_at keys key (nat_lt (version_by keys key) (length keys)) refl (count_within keys key) none
