-- The 15 digits of a time, two at a time.
use Rattle.std.proofs.Common.{◌≡◌, ℕ, zero, suc, ◌+◌, ◌-◌, ◌*◌, ◌/◌, ◌%◌, ◌<◌, Bool, true, ◌&&◌, T, eqb, List, [], ◌∷◌, get_or}
use Rattle.std.proofs.Common.{refl, inl, inr, arith, eq-zero-or-pos, eqb→eq}
use lib.Ieee.Fits.{and_l, and_r}
use Rattle.nms_import.specs.Imported.{fifteen_digits}
use Rattle.nms_import.specs.declared.time.TheConstants.{PAIRS}

abbrev are_pairs : ℕ → Bool
are_pairs zero = true
are_pairs (suc p) = (eqb (get_or PAIRS (p * 2) 0) (48 + p / 10) && eqb (get_or PAIRS (p * 2 + 1) 0) (48 + p % 10)) && are_pairs p

below : (n p : ℕ) → T (are_pairs n) → p < n → (get_or PAIRS (p * 2) 0 ≡ 48 + p / 10) × (get_or PAIRS (p * 2 + 1) 0 ≡ 48 + p % 10)
below zero p t h = absurd (omega arith)
below (suc n) p t h =
    elim (eq-zero-or-pos (n - p)) [
      | inl z ↦ let e : p ≡ n = omega arith in let a = and_l _ (are_pairs n) t in rw e (eqb→eq _ _ (and_l _ _ a), eqb→eq _ _ (and_r _ _ a))
      | inr g ↦ below n p (and_r _ (are_pairs n) t) (omega arith)
    ]

-- the table has the two digits of each number below 100
pairs_at : (p : ℕ) → p < 100 → (get_or PAIRS (p * 2) 0 ≡ 48 + p / 10) × (get_or PAIRS (p * 2 + 1) 0 ≡ 48 + p % 10)
pairs_at p h = below 100 p tt h

-- the six digits of HHMMSS
front_digits : (n front : ℕ) → front ≡ n / 1000000000 % 1000000
    → (48 + front / 10000 / 10 ≡ 48 + n / 1000000000000 / 100 % 10)
    × (48 + front / 10000 % 10 ≡ 48 + n / 1000000000000 / 10 % 10)
    × (48 + front / 100 % 100 / 10 ≡ 48 + n / 1000000000000 / 1 % 10)
    × (48 + front / 100 % 100 % 10 ≡ 48 + n / 1000000000 / 100 % 10)
    × (48 + front % 100 / 10 ≡ 48 + n / 1000000000 / 10 % 10)
    × (48 + front % 100 % 10 ≡ 48 + n / 1000000000 / 1 % 10)
front_digits n front is = (omega arith, omega arith, omega arith, omega arith, omega arith, omega arith)

-- the nine digits after them
back_digits : (n back : ℕ) → back ≡ n % 1000000000
    → (48 + back / 10000000 / 10 ≡ 48 + n / 1000000 / 100 % 10)
    × (48 + back / 10000000 % 10 ≡ 48 + n / 1000000 / 10 % 10)
    × (48 + back / 100000 % 100 / 10 ≡ 48 + n / 1000000 / 1 % 10)
    × (48 + back / 100000 % 100 % 10 ≡ 48 + n / 1000 / 100 % 10)
    × (48 + back / 1000 % 100 / 10 ≡ 48 + n / 1000 / 10 % 10)
    × (48 + back / 1000 % 100 % 10 ≡ 48 + n / 1000 / 1 % 10)
    × (48 + back / 10 % 100 / 10 ≡ 48 + n / 100 % 10)
    × (48 + back / 10 % 100 % 10 ≡ 48 + n / 10 % 10)
    × (48 + back % 10 ≡ 48 + n / 1 % 10)
back_digits n back is =
    (omega arith, omega arith, omega arith, omega arith, omega arith, omega arith, omega arith, omega arith, omega arith)

-- two digits of the table
abbrev pub pair_of : ℕ → List ℕ → List ℕ
pair_of p more = get_or PAIRS (p * 2) 0 ∷ get_or PAIRS (p * 2 + 1) 0 ∷ more

-- the pairs of a time are its 15 digits
pub text_of_pairs : (n front back : ℕ) → front ≡ n / 1000000000 % 1000000 → back ≡ n % 1000000000
    → pair_of (front / 10000) (pair_of (front / 100 % 100) (pair_of (front % 100) (pair_of (back / 10000000)
    (pair_of (back / 100000 % 100) (pair_of (back / 1000 % 100) (pair_of (back / 10 % 100) ((48 + back % 10) ∷ [])))))))
    ≡ fifteen_digits n
text_of_pairs n front back is_front is_back =
    let a = pairs_at (front / 10000) (omega arith) in
    let b = pairs_at (front / 100 % 100) (omega arith) in
    let c = pairs_at (front % 100) (omega arith) in
    let d = pairs_at (back / 10000000) (omega arith) in
    let e = pairs_at (back / 100000 % 100) (omega arith) in
    let f = pairs_at (back / 1000 % 100) (omega arith) in
    let g = pairs_at (back / 10 % 100) (omega arith) in
    let fronts = front_digits n front is_front in
    let backs = back_digits n back is_back in
    rw (
      a.0,
      a.1,
      b.0,
      b.1,
      c.0,
      c.1,
      d.0,
      d.1,
      e.0,
      e.1,
      f.0,
      f.1,
      g.0,
      g.1,
      fronts.0,
      fronts.1,
      fronts.2,
      fronts.3,
      fronts.4,
      fronts.5,
      backs.0,
      backs.1,
      backs.2,
      backs.3,
      backs.4,
      backs.5,
      backs.6,
      backs.7,
      backs.8,
    ) refl
