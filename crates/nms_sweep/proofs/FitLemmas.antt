-- At some usable price an order can be filled: when the sizes up to it, best price first, reach what can be filled.
use Rattle.std.proofs.Common.{ℕ, ◌≡◌, ◌<◌, ◌≤◌, ◌+◌, List, [], ◌∷◌, ◌++◌, ◌⊎◌, inl, inr, refl, ap, subst, arith}
use Rattle.std.specs.Prelude.{ℤ, ◌≤ℤ◌}
use Rattle.std.specs.List.{AllByRecursion}
use Rattle.std.proofs.lemmas.Bool.{cases_lt}
use Rattle.std.proofs.lemmas.Int.{ints}
use Rattle.nms_rules.specs.Assignment.{total}
use Rattle.nms_rules.specs.Cutoff.{pool, pool_part, swept, swept_part}
use Rattle.nms_rules.specs.Usable.{Usable}
use Rattle.nms_rules.proofs.Offered.{In}
use Rattle.nms_sweep.specs.declared.row_order.Key.TheVariants.{Price}
use Rattle.nms_sweep.proofs.OrderLemmas.{NoLess, Ordered}
use Rattle.nms_sweep.proofs.TierLemmas.{swept_far, within_parts}
use Rattle.nms_sweep.proofs.TotalLemmas.{total_append}

abbrev pub shown : List Usable → ℕ
shown rows = total (λ row. row.size) rows

-- a price at which n can be filled
pub record Fits (rows : List Usable) (most : ℕ) (row : Usable) : Type 0 where
  pub sweeps : swept row.rank rows ≤ most
  pub reaches : most ≤ swept row.rank rows + pool row.rank rows

-- nothing has to be swept of rows at no better a price
pub none-swept : (row : Usable) (rows : List Usable) → NoLess Price row rows → swept row.rank rows ≡ 0
unfolding total
none-swept row [] each = refl
none-swept row (other ∷ rows) each = omega (arith, swept_far row.rank other each.0, none-swept row rows each.1)

-- rows at the price or better are swept or in the pool
pub all-within : (cutoff : ℤ) (rows : List Usable) → AllByRecursion (λ row. row.rank ≤ℤ cutoff) rows
    → shown rows ≡ swept cutoff rows + pool cutoff rows
unfolding total
all-within cutoff [] each = refl
all-within cutoff (row ∷ rows) each = omega (arith, within_parts cutoff row each.0, all-within cutoff rows each.1)

within-more : (near far : ℤ) (rows : List Usable) → near ≤ℤ far → AllByRecursion (λ row. row.rank ≤ℤ near) rows
    → AllByRecursion (λ row. row.rank ≤ℤ far) rows
within-more near far [] order each = tt
within-more near far (row ∷ rows) order each = (omega (arith, ints, order, each.0), within-more near far rows order each.1)

pub within-push : (cutoff : ℤ) (rows : List Usable) (row : Usable) → AllByRecursion (λ one. one.rank ≤ℤ cutoff) rows → row.rank ≤ℤ cutoff
    → AllByRecursion (λ one. one.rank ≤ℤ cutoff) (rows ++ row ∷ [])
within-push cutoff [] row each last = (last, tt)
within-push cutoff (first ∷ rows) row each last = (each.0, within-push cutoff rows row each.1 last)

append-assoc : (one : List Usable) (row : Usable) (other : List Usable) → (one ++ row ∷ []) ++ other ≡ one ++ row ∷ other
append-assoc [] row other = refl
append-assoc (first ∷ one) row other = ap (λ (rest : List Usable). first ∷ rest) (append-assoc one row other)

-- the row at which the sizes so far reach it
at-row : (before : List Usable) (row : Usable) (rows : List Usable) (most : ℕ) → AllByRecursion (λ one. one.rank ≤ℤ row.rank) before
    → NoLess Price row rows
    → shown before ≤ most → most ≤ shown before + row.size → Fits (before ++ row ∷ rows) most row
unfolding total
at-row before row rows most within no_less less enough =
    let sweeps = total_append (swept_part row.rank) before (row ∷ rows) in
    let pools = total_append (pool_part row.rank) before (row ∷ rows) in
    let all = all-within row.rank before within in
    let own = within_parts row.rank row (omega (arith, ints)) in
    let far = swept_far row.rank row (omega (arith, ints)) in
    let none = none-swept row rows no_less in
    record {
      sweeps = omega (arith, sweeps, far, none, all, less);
      reaches = omega (arith, sweeps, pools, all, own, enough);
    }

fits-from : (before : List Usable) (row : Usable) (rows : List Usable) (most : ℕ) → AllByRecursion (λ one. one.rank ≤ℤ row.rank) before
    → Ordered Price (row ∷ rows)
    → shown before ≤ most → most ≤ shown before + shown (row ∷ rows) → (shown before + row.size < most) ⊎ (most ≤ shown before + row.size)
    → (one : Usable) × In one (row ∷ rows) × Fits (before ++ row ∷ rows) most one
unfolding total
fits-from before row rows most within ordered less enough (inr here) =
    (row, inl refl, at-row before row rows most within ordered.0 less here)
fits-from before row [] most within ordered less enough (inl more) = absurd (omega (arith, more, enough))
fits-from before row (next ∷ rows) most within ordered less enough (inl more) =
    let grown : shown (before ++ row ∷ []) ≡ shown before + row.size =
    omega (arith, total_append (λ (one : Usable). one.size) before (row ∷ [])) in
    let rest = fits-from (before ++ row ∷ []) next rows most
    (within-push next.rank before row (within-more row.rank next.rank before ordered.0.0 within) ordered.0.0) ordered.1
    (omega (arith, grown, more)) (omega (arith, grown, enough))
    (cases_lt (shown (before ++ row ∷ []) + next.size) most) in
    (rest.0, inr rest.1, subst (λ (all : List Usable). Fits all most rest.0) (append-assoc before row (next ∷ rows)) rest.2)

pub fits : (row : Usable) (rows : List Usable) (most : ℕ) → Ordered Price (row ∷ rows) → most ≤ shown (row ∷ rows)
    → (one : Usable) × In one (row ∷ rows) × Fits (row ∷ rows) most one
unfolding total
fits row rows most ordered enough = fits-from [] row rows most tt ordered (omega arith) (omega (arith, enough)) (cases_lt (shown []
    + row.size) most)
