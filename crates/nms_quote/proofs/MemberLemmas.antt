-- Sets of places as binary digits.
use Rattle.std.proofs.Common.{◌≡◌, ℕ, ◌*◌, ◌/◌, ◌%◌, ◌^◌, ◌<◌, max, true, false, ◌||◌, ◌==◌, bit_and, bit_or, refl, sym, subst, inl}
use Rattle.std.proofs.Common.{inr, arith}
use Rattle.std.specs.Int.{bit_at}
use Rattle.std.proofs.lemmas.Bool.{cases_eq, ne_eqb, eq-eqb}
use Rattle.std.proofs.lemmas.Bool.Decides.{nat_tests}
use Rattle.std.proofs.lemmas.Nat.{one_shl}
use Rattle.std.proofs.lemmas.Nat.Bits.{bit_at-lt, bit_at-pow_other, bit_at-pow_same, bit_at-zero, bit_at_or, same_from_bits_below}
use Rattle.std.proofs.lemmas.Nat.Bits.{shr_and_one}
use Rattle.nms_quote.specs.Members.{AreSetsByMembers, has_part, nobody, with_part}

-- no participant is in the empty set
pub has-nobody : (place : ℕ) → has_part nobody place ≡ false
unfolding has_part
has-nobody place = rw (bit_at-zero place) refl

-- the word that is tested
pub has-shifted : (set place : ℕ) → (bit_and (set / 2 ^ place) 1 == 1) ≡ has_part set place
unfolding has_part
has-shifted set place = rw (shr_and_one set place) refl

-- the word that is made
pub with-shifted : (set place : ℕ) → place < 32 → bit_or set (1 * 2 ^ place % 2 ^ 32) ≡ with_part set place
unfolding with_part
with-shifted set place within = rw (one_shl place 32 within) refl

digit_set : (n : ℕ) → n < 2 → (max n 1 == 1) ≡ true
digit_set n h = grind (arith, nat_tests)

digit_kept : (n : ℕ) → (max n 0 == 1) ≡ (n == 1)
digit_kept n = grind (arith, nat_tests)

-- who is in a set with one participant more
pub has-with : (set part place : ℕ) → has_part (with_part set part) place ≡ (place == part || has_part set place)
unfolding has_part with_part
has-with set part place =
    elim (cases_eq place part) [
      | inl same ↦ subst (λ p. (bit_at (bit_or set (2 ^ part)) p == 1) ≡ (p == part || bit_at set p == 1)) (sym same)
          (rw (bit_at_or set (2 ^ part) part, bit_at-pow_same part, digit_set (bit_at set part) (bit_at-lt set part), eq-eqb part part refl)
          refl)
      | inr other ↦ rw (bit_at_or set (2 ^ part) place, bit_at-pow_other part place other, ne_eqb place part other)
          (digit_kept (bit_at set place))
    ]

pub digit_told : (a b : ℕ) → a < 2 → b < 2 → (a == 1) ≡ (b == 1) → a ≡ b
digit_told a b below under e = grind (arith, nat_tests)

-- two sets with the same members are equal
pub sets-by-members : AreSetsByMembers
unfolding has_part
sets-by-members one other within below same =
    same_from_bits_below 32 one other within below
    (λ place there. digit_told (bit_at one place) (bit_at other place) (bit_at-lt one place) (bit_at-lt other place) (same place there))
