-- Sets of participants' places. A set is the number whose binary digits say who is in it: digit `place` is 1 if that
-- participant is. This product's own rule.
use Rattle.std.specs.Prelude.{ℕ, ◌≡◌, ◌==◌, ◌<◌, ◌^◌, Bool}
use Rattle.std.specs.Int.{bit_at}
use Rattle.std.specs.Int.RustNames.{bit_or}

-- the empty set
abbrev pub nobody : ℕ
nobody = 0

-- whether the participant at a place is in a set
unfoldable pub has_part : ℕ → ℕ → Bool
has_part set place = bit_at set place == 1

-- a set and one participant more
unfoldable pub with_part : ℕ → ℕ → ℕ
with_part set place = bit_or set (2 ^ place)

-- two sets with the same members are equal
abbrev pub AreSetsByMembers : Type 0
AreSetsByMembers =
    (one other : ℕ) → one < 2 ^ 32 → other < 2 ^ 32
    → ((place : ℕ) → place < 32 → has_part one place ≡ has_part other place) → one ≡ other
