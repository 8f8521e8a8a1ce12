-- Only the first rows in the order of their prices, at a cutoff or better, get shares there.
use Rattle.std.proofs.Common.{ℕ, zero, suc, ◌≡◌, ◌<◌, ◌+◌, ◌-◌, ◌++◌, ◌⊎◌, inl, inr, List, [], ◌∷◌, length, take, drop, get_or, refl, ap}
use Rattle.std.proofs.Common.{sym, ◌∙◌}
use Rattle.std.proofs.Common.{arith}
use Rattle.std.specs.Prelude.{ℤ, ◌<ℤ◌, ◌≤ℤ◌, not}
use Rattle.std.specs.Int.RustNames.{int_le, int_lt}
use Rattle.std.specs.List.{AllByRecursion}
use Rattle.std.proofs.lemmas.Bool.{and_parts}
use Rattle.std.proofs.lemmas.Int.{ints}
use Rattle.std.proofs.lemmas.List.{take-append-drop}
use Rattle.std.proofs.lemmas.List.Elements.{All-from_recursion, recursion_from_All}
use Rattle.nms_rules.specs.Assignment.{total}
use Rattle.nms_rules.specs.Cutoff.{is_swept, swept, swept_part}
use Rattle.nms_rules.specs.Usable.{Usable}
use Rattle.nms_rules.proofs.Offered.{Passes, Pools, Sweeps, le-true, lt-true, places}
use Rattle.nms_sweep.specs.Choice.{below, below_part, left_after, legs_of, share_of, with_leg}
use Rattle.nms_sweep.specs.Order.{IsByPrice, StopAt}
use Rattle.nms_sweep.specs.declared.row_order.Key.TheVariants.{Price}
use Rattle.nms_sweep.proofs.OrderLemmas.{NoLess, Ordered, in_order_from, ordered_from}
use Rattle.nms_sweep.proofs.TotalLemmas.{total_append}

-- at prices of worse ranks
abbrev pub AreBeyond : ℤ → List Usable → Type 0
AreBeyond cutoff rows = AllByRecursion (λ row. cutoff <ℤ row.rank) rows

-- ---- where they stop

beyond-more : (cutoff : ℤ) (row : Usable) (rows : List Usable) → cutoff <ℤ row.rank → NoLess Price row rows → AreBeyond cutoff rows
beyond-more cutoff row [] far each = tt
beyond-more cutoff row (later ∷ rows) far each = (omega (arith, ints, far, each.0), beyond-more cutoff row rows far each.1)

beyond-from : (cutoff : ℤ) (rows : List Usable) (at : ℕ) (row : Usable) → Ordered Price rows → at < length rows → row ≡ get_or rows at row
    → cutoff <ℤ row.rank → AreBeyond cutoff (drop at rows)
beyond-from cutoff [] at row is below own far = absurd (omega (arith, below))
beyond-from cutoff (first ∷ rows) zero row is below own far =
    let near : cutoff <ℤ first.rank = omega (arith, ints, far, ap (λ (one : Usable). one.rank) own) in
    (near, beyond-more cutoff first rows near is.0)
beyond-from cutoff (first ∷ rows) (suc at) row is below own far = beyond-from cutoff rows at row is.1 (omega (arith, below)) own far

-- a row of the list is the same, with any others in place
pub same_at : (rows : List Usable) (at : ℕ) (one other : Usable) → at < length rows → get_or rows at one ≡ get_or rows at other
same_at [] at one other below = absurd (omega (arith, below))
same_at (first ∷ rows) zero one other below = refl
same_at (first ∷ rows) (suc at) one other below = same_at rows at one other (omega (arith, below))

-- before the first row at a price of a worse rank
pub stop_at : (cutoff : ℤ) (rows : List Usable) (at : ℕ) (row : Usable) → IsByPrice rows → at < length rows → row ≡ get_or rows at row
    → cutoff <ℤ row.rank → StopAt cutoff rows (take at rows)
stop_at cutoff rows at row is below own far = (
  drop at rows,
  sym (take-append-drop at rows),
  All-from_recursion (λ (one : Usable). cutoff <ℤ one.rank) (drop at rows)
      (beyond-from cutoff rows at row (ordered_from Price rows (in_order_from Price rows is)) below own far),
)

-- ---- what the others get

far-passes : (cutoff : ℤ) (row : Usable) → cutoff <ℤ row.rank → Sweeps cutoff row ⊎ (Pools cutoff row ⊎ Passes cutoff row)
    → Passes cutoff row
far-passes cutoff row far (inl at) =
    let near : row.rank <ℤ cutoff =
    lt-true row.rank cutoff (and_parts row.protected (int_lt row.rank cutoff) at.is).1 in absurd (omega (arith, ints, near, far))
far-passes cutoff row far (inr (inl at)) =
    let near : row.rank ≤ℤ cutoff =
    le-true row.rank cutoff (and_parts (int_le row.rank cutoff) (not (is_swept cutoff row)) at.pooled).0 in
    absurd (omega (arith, ints, near, far))
far-passes cutoff row far (inr (inr at)) = at

pub passes : (cutoff : ℤ) (row : Usable) → cutoff <ℤ row.rank → Passes cutoff row
passes cutoff row far = far-passes cutoff row far (places cutoff row)

legs-none : (cutoff marginal : ℤ) (left : ℕ) (rows : List Usable) → AreBeyond cutoff rows → legs_of cutoff marginal left rows ≡ []
unfolding legs_of
legs-none cutoff marginal left [] each = refl
legs-none cutoff marginal left (row ∷ rows) each =
    let at = passes cutoff row each.0 in rw (at.pooled, at.is) (legs-none cutoff marginal left rows each.1)

swept-none : (cutoff : ℤ) (rows : List Usable) → AreBeyond cutoff rows → swept cutoff rows ≡ 0
unfolding total
swept-none cutoff [] each = refl
swept-none cutoff (row ∷ rows) each = rw (passes cutoff row each.0).is (omega (arith, swept-none cutoff rows each.1))

below-none : (cutoff marginal : ℤ) (rows : List Usable) → AreBeyond cutoff rows → below cutoff marginal rows ≡ 0
unfolding total
below-none cutoff marginal [] each = refl
below-none cutoff marginal (row ∷ rows) each = rw (passes cutoff row each.0).pooled (omega (arith, below-none cutoff marginal rows each.1))

legs-front : (cutoff marginal : ℤ) (left : ℕ) (some others : List Usable) → AreBeyond cutoff others
    → legs_of cutoff marginal left (some ++ others) ≡ legs_of cutoff marginal left some
unfolding legs_of
legs-front cutoff marginal left [] others each = legs-none cutoff marginal left others each
legs-front cutoff marginal left (row ∷ some) others each =
    ap (with_leg row (share_of cutoff marginal left row))
    (legs-front cutoff marginal (left_after cutoff marginal left row) some others each)

-- the legs of the first ones are those of all rows
pub front_legs : (cutoff marginal : ℤ) (most before left : ℕ) (rows some : List Usable) → StopAt cutoff rows some
    → before ≡ swept cutoff some + below cutoff marginal some → left ≡ most - before
    → legs_of cutoff marginal left some ≡ legs_of cutoff marginal (most - swept cutoff rows - below cutoff marginal rows) rows
front_legs cutoff marginal most before left rows some stop before_is left_is =
    let others = stop.0 in
    let each : AreBeyond cutoff others = recursion_from_All (λ (row : Usable). cutoff <ℤ row.rank) others stop.2 in
    let same : left ≡ most - swept cutoff rows - below cutoff marginal rows =
    omega (
      arith,
      before_is,
      left_is,
      ap (swept cutoff) stop.1,
      ap (below cutoff marginal) stop.1,
      total_append (swept_part cutoff) some others,
      total_append (below_part cutoff marginal) some others,
      swept-none cutoff others each,
      below-none cutoff marginal others each,
    ) in
    sym (legs-front cutoff marginal left some others each) ∙ ap (legs_of cutoff marginal left) (sym stop.1)
    ∙ ap (λ n. legs_of cutoff marginal n rows) same
