-- Rank orders say at most one view: `same_rows`, one row after another.
use Rattle.std.proofs.Common.{◌≡◌, ℕ, zero, suc, ◌<◌, List, [], ◌∷◌, length, get_or, refl, sym, ◌∙◌, subst, arith}
use Rattle.std.specs.Prelude.{AllPairs, Contains}
use Rattle.std.proofs.lemmas.List.Sorted.{Contains-permutation, IsPermutation-sym}
use Rattle.nms_quote.specs.declared.side_quote.Side.{Side}
use Rattle.nms_board.specs.Ranking.{IsRankOrder}
use Rattle.nms_board.specs.View.{AreRows}
use Rattle.nms_board.specs.declared.row.Row.{Row}
use Rattle.nms_board.proofs.GivenLemmas.{Precedes, rows_apart}
use Rattle.nms_board.proofs.RankLemmas.{pairs_tail}

abbrev AreWithin : List Row → List Row → Type 0
AreWithin rows others = (row : Row) → Contains rows row → Contains others row

-- a later row's place is greater
behind : (row : Row) (rows : List Row) (k : ℕ) (other : Row) → AllPairs Precedes (row ∷ rows) → suc k < length (row ∷ rows)
    → get_or (row ∷ rows) (suc k) other ≡ other → row.part < other.part
behind row rows k other pairs below at =
    subst (λ (found : Row). row.part < found.part) at (pairs zero (suc k) other (omega arith) below).0

-- two lists of the same rows begin with the same row
heads : (row other : Row) (rows others : List Row) → AllPairs Precedes (row ∷ rows) → AllPairs Precedes (other ∷ others)
    → Contains (other ∷ others) row → Contains (row ∷ rows) other → row ≡ other
heads row other rows others pairs second (zero, below, at) there = sym at
heads row other rows others pairs second (suc k, below, at) (zero, under, is) = is
heads row other rows others pairs second (suc k, below, at) (suc n, under, is) =
    absurd (omega (arith, behind other others k row second below at, behind row rows n other pairs under is))

-- and go on with the same rows
rest : (row other : Row) (rows others : List Row) → row ≡ other → AllPairs Precedes (row ∷ rows)
    → AreWithin (row ∷ rows) (other ∷ others) → AreWithin rows others
rest row other rows others same pairs within found (k, below, at) =
    later (within found (suc k, omega (arith, below), at))
  where
    after : row.part < found.part
    after = behind row rows k found pairs (omega (arith, below)) at

    later : Contains (other ∷ others) found → Contains others found
    later (zero, under, is) = absurd (omega (arith, subst (λ (r : Row). r.part < found.part) (same ∙ is) after))
    later (suc n, under, is) = (n, omega (arith, under), is)

same_rows : (rows others : List Row) → AllPairs Precedes rows → AllPairs Precedes others → AreWithin rows others
    → AreWithin others rows → rows ≡ others
same_rows [] [] pairs second to from = refl
same_rows [] (other ∷ others) pairs second to from = nothing (from other (zero, omega arith, refl))
  where
    nothing : Contains [] other → [] ≡ other ∷ others
    nothing (k, below, at) = absurd (omega (arith, below))
same_rows (row ∷ rows) [] pairs second to from = nothing (to row (zero, omega arith, refl))
  where
    nothing : Contains [] row → row ∷ rows ≡ []
    nothing (k, below, at) = absurd (omega (arith, below))
same_rows (row ∷ rows) (other ∷ others) pairs second to from =
    let same = heads row other rows others pairs second (to row (zero, omega arith, refl)) (from other (zero, omega arith, refl)) in
    let more = same_rows rows others (pairs_tail Precedes row rows pairs) (pairs_tail Precedes other others second)
    (rest row other rows others same pairs to) (rest other row others rows (sym same) second from) in
    λ i. same i ∷ more i

pub one_side : (side : Side) (rows others in_order : List Row) → AreRows rows → AreRows others → IsRankOrder side rows in_order
    → IsRankOrder side others in_order → rows ≡ others
one_side side rows others in_order are second order again =
    same_rows rows others (rows_apart rows are).pairs (rows_apart others second).pairs
    (λ row there. Contains-permutation in_order others row (IsPermutation-sym others in_order again.same)
    (Contains-permutation rows in_order row order.same there))
    (λ row there. Contains-permutation in_order rows row (IsPermutation-sym rows in_order order.same)
    (Contains-permutation others in_order row again.same there))
