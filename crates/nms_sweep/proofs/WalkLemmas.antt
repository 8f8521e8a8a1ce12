-- A walk over the prices: the sums over the rows that were passed are those of the cutoffs.
use Rattle.std.proofs.Common.{ℕ, zero, suc, ◌≡◌, ◌<◌, ◌≤◌, ◌+◌, ◌^◌, true, false, List, [], ◌∷◌, ◌++◌, length, take, drop, get_or, Some}
use Rattle.std.proofs.Common.{None, ◌⊎◌, inl, inr, refl, ap, sym, ◌∙◌, subst, arith}
use Rattle.std.specs.Prelude.{ℤ, pos, neg_ℤ, ◌+ℤ◌, ◌<ℤ◌, ◌≤ℤ◌}
use Rattle.std.specs.List.{AllByRecursion}
use Rattle.std.proofs.lemmas.Bool.{and_parts, and_right, both_ways, cases_Bool, eqb-true}
use Rattle.std.proofs.lemmas.Int.{ints}
use Rattle.std.proofs.lemmas.List.{drop_more, take-append-drop, take_more}
use Rattle.nms_quote.specs.declared.order.OrderSide.{OrderSide}
use Rattle.nms_quote.specs.declared.order.OrderSide.TheVariants as side
use Rattle.nms_rules.specs.declared.TheConstants.{MOST_SIZE}
use Rattle.nms_rules.specs.Assignment.{amount, total}
use Rattle.nms_rules.specs.Cutoff.{pool, pool_part, swept, swept_cost, swept_cost_part, swept_part}
use Rattle.nms_rules.specs.Usable.{Usable, rank_of}
use Rattle.nms_rules.proofs.Offered.{Passes, Pools, Sweeps, cost-not, places, pool-not, In, In-All, false-lt, le-true, true-lt}
use Rattle.nms_sweep.specs.Choice.{per_price, starts_at}
use Rattle.nms_sweep.specs.Cutoffs.{GivesNext, cutoff_at, cutoffs_of}
use Rattle.nms_sweep.specs.Passed.{AreByPrice, IsCounted, IsPassed, IsSweptNext, protected_cost_part, protected_part}
use Rattle.nms_sweep.specs.declared.cutoffs.Cutoff.{Cutoff}
use Rattle.nms_sweep.specs.declared.cutoffs.Passed.{Passed}
use Rattle.nms_sweep.specs.declared.row_order.Key.TheVariants.{Price}
use Rattle.nms_sweep.proofs.CutLemmas.{beyond, per_cases}
use Rattle.nms_sweep.proofs.FitLemmas.{all-within, none-swept, shown, within-push}
use Rattle.nms_sweep.proofs.OrderLemmas.{NoLess, Ordered, in_order_from, ordered_from}
use Rattle.nms_sweep.proofs.TierLemmas.{swept_far}
use Rattle.nms_sweep.proofs.TotalLemmas.{amount_append, total_append}

-- ---- one more row of those that are left

pub record IsNextRow (rows : List Usable) (i : ℕ) (row : Usable) (later : List Usable) : Type 0 where
  pub within : i < length rows
  pub taken : take (i + 1) rows ≡ take i rows ++ row ∷ []
  pub left : drop (i + 1) rows ≡ later
  pub all : rows ≡ take i rows ++ row ∷ later

pub next_row : (rows : List Usable) (i : ℕ) (row : Usable) (later : List Usable) → i < length rows → drop i rows ≡ row ∷ later
    → IsNextRow rows i row later
next_row rows i row later within is =
    let whole : get_or rows i row ∷ drop (i + 1) rows ≡ row ∷ later = sym (drop_more rows i row within) ∙ is in
    let same : get_or rows i row ≡ row = cc in
    let rest : drop (i + 1) rows ≡ later = cc in
    record {
      within = within;
      taken = take_more rows i row within ∙ ap (λ (one : Usable). take i rows ++ one ∷ []) same;
      left = rest;
      all = sym (take-append-drop i rows) ∙ ap (λ (some : List Usable). take i rows ++ some) is;
    }

-- if some are left, they begin within the rows
pub within_rows : (rows : List Usable) (i : ℕ) (row : Usable) (later : List Usable) → i ≤ length rows → drop i rows ≡ row ∷ later
    → i < length rows
within_rows [] zero row later within is = absurd (cc)
within_rows [] (suc i) row later within is = absurd (omega (arith, within))
within_rows (first ∷ rows) zero row later within is = omega arith
within_rows (first ∷ rows) (suc i) row later within is = omega (arith, within_rows rows i row later (omega (arith, within)) is)

-- ---- rows in the order of their prices

ordered-behind : (before behind : List Usable) → Ordered Price (before ++ behind) → Ordered Price behind
ordered-behind [] behind ordered = ordered
ordered-behind (first ∷ before) behind ordered = ordered-behind before behind ordered.1

no-less-at : (first : Usable) (before : List Usable) (row : Usable) (later : List Usable) → NoLess Price first (before ++ row ∷ later)
    → first.rank ≤ℤ row.rank
no-less-at first [] row later each = each.0
no-less-at first (one ∷ before) row later each = no-less-at first before row later each.1

pub least-before : (before : List Usable) (row : Usable) (later : List Usable) → Ordered Price (before ++ row ∷ later)
    → AllByRecursion (λ one. one.rank ≤ℤ row.rank) before
least-before [] row later ordered = tt
least-before (first ∷ before) row later ordered = (no-less-at first before row later ordered.0, least-before before row later ordered.1)

-- ---- the parts of one row

swept-near : (cutoff : ℤ) (row : Usable) → row.rank <ℤ cutoff → (row.protected ≡ true) ⊎ (row.protected ≡ false)
    → (swept_part cutoff row ≡ protected_part row) × (swept_cost_part cutoff row ≡ protected_cost_part row)
swept-near cutoff row near (inl is) = (rw (is, true-lt row.rank cutoff near) refl, rw (is, true-lt row.rank cutoff near) refl)
swept-near cutoff row near (inr not_protected) = (rw not_protected refl, rw not_protected refl)

cost-far : (cutoff : ℤ) (row : Usable) → cutoff ≤ℤ row.rank → swept_cost_part cutoff row ≡ pos 0
cost-far cutoff row far = cost-not cutoff row (and_right row.protected _ (false-lt row.rank cutoff far))

pool-far-step : (cutoff : ℤ) (row : Usable) → cutoff <ℤ row.rank → Sweeps cutoff row ⊎ (Pools cutoff row ⊎ Passes cutoff row)
    → pool_part cutoff row ≡ 0
pool-far-step cutoff row far (inl at) = pool-not cutoff row at.pooled
pool-far-step cutoff row far (inr (inl at)) = absurd (omega (arith, ints, far, le-true row.rank cutoff (and_parts _ _ at.pooled).0))
pool-far-step cutoff row far (inr (inr at)) = pool-not cutoff row at.pooled

-- ---- the sums

pub near-sums : (rank cutoff : ℤ) (rows : List Usable) → rank <ℤ cutoff → AllByRecursion (λ one. one.rank ≤ℤ rank) rows
    → (swept cutoff rows ≡ total protected_part rows) × (swept_cost cutoff rows ≡ amount protected_cost_part rows)
unfolding total amount
near-sums rank cutoff [] less each = (refl, refl)
near-sums rank cutoff (row ∷ rows) less each =
    let part = swept-near cutoff row (omega (arith, ints, less, each.0)) (cases_Bool row.protected) in
    let rest = near-sums rank cutoff rows less each.1 in
    (omega (arith, part.0, rest.0), omega (arith, ints, part.1, rest.1))

none-cost : (row : Usable) (rows : List Usable) → NoLess Price row rows → swept_cost row.rank rows ≡ pos 0
unfolding amount
none-cost row [] each = refl
none-cost row (other ∷ rows) each = omega (arith, ints, cost-far row.rank other each.0, none-cost row rows each.1)

none-pooled : (cutoff : ℤ) (rows : List Usable) → ((later : Usable) → In later rows → cutoff <ℤ later.rank) → pool cutoff rows ≡ 0
unfolding total
none-pooled cutoff [] each = refl
none-pooled cutoff (row ∷ rows) each = omega (
  arith,
  pool-far-step cutoff row (each row (inl refl)) (places cutoff row),
  none-pooled cutoff rows (λ later within. each later (inr within)),
)

-- at the first of some rows nothing of them must be swept
first-sums : (row : Usable) (later : List Usable) → NoLess Price row later
    → (swept row.rank (row ∷ later) ≡ 0) × (swept_cost row.rank (row ∷ later) ≡ pos 0)
unfolding total amount
first-sums row later each = (
  omega (arith, swept_far row.rank row (omega (arith, ints)), none-swept row later each),
  omega (arith, ints, cost-far row.rank row (omega (arith, ints)), none-cost row later each),
)

-- ---- the last row of a price

-- all later ones are beyond it
later-beyond : (side : OrderSide) (row : Usable) (later : List Usable)
    → ((one : Usable) → In one (row ∷ later) → one.rank ≡ rank_of side one.price) → Ordered Price (row ∷ later)
    → starts_at row.price later ≡ false
    → (one : Usable) → In one later → row.rank <ℤ one.rank
later-beyond side row later ranks ordered last one within =
    let far = beyond side row later (ranks row (inl refl)) (λ other more. ranks other (inr more)) ordered.0 ordered.1 last one within in
    omega (arith, ints, far, ranks row (inl refl), ranks one (inr within))

-- the pool there is what is shown so far and need not be swept
pool-at : (side : OrderSide) (before : List Usable) (row : Usable) (later : List Usable)
    → ((one : Usable) → In one (row ∷ later) → one.rank ≡ rank_of side one.price) → Ordered Price (before ++ row ∷ later)
    → starts_at row.price later ≡ false
    → swept row.rank (before ++ row ∷ later) + pool row.rank (before ++ row ∷ later) ≡ shown (before ++ row ∷ [])
unfolding total
pool-at side before row later ranks ordered last =
    let from = ordered-behind before (row ∷ later) ordered in
    let near = all-within row.rank (before ++ row ∷ [])
    (within-push row.rank before row (least-before before row later ordered) (omega (arith, ints))) in
    omega (
      arith,
      near,
      total_append (swept_part row.rank) before (row ∷ later),
      total_append (pool_part row.rank) before (row ∷ later),
      total_append (swept_part row.rank) before (row ∷ []),
      total_append (pool_part row.rank) before (row ∷ []),
      none-swept row later from.0,
      none-pooled row.rank later (later-beyond side row later ranks from last),
    )

-- what was protected so far must be swept at the next price
swept-next : (side : OrderSide) (before : List Usable) (row : Usable) (later : List Usable)
    → ((one : Usable) → In one (row ∷ later) → one.rank ≡ rank_of side one.price) → Ordered Price (before ++ row ∷ later)
    → starts_at row.price later ≡ false
    → IsSweptNext (before ++ row ∷ later) (total protected_part (before ++ row ∷ [])) (amount protected_cost_part (before ++ row ∷ []))
    later
unfolding total amount
swept-next side before row [] ranks ordered last = tt
swept-next side before row (next ∷ later) ranks ordered last =
    let from = ordered-behind before (row ∷ next ∷ later) ordered in
    let less = later-beyond side row (next ∷ later) ranks from last next (inl refl) in
    let near = near-sums row.rank next.rank (before ++ row ∷ []) less
    (within-push row.rank before row (least-before before row (next ∷ later) ordered) (omega (arith, ints))) in
    let far = first-sums next later from.1.0 in (
      omega (
        arith,
        near.0,
        far.0,
        total_append (swept_part next.rank) before (row ∷ next ∷ later),
        total_append (swept_part next.rank) before (row ∷ []),
      ),
      omega (
        arith,
        ints,
        near.1,
        far.1,
        amount_append (swept_cost_part next.rank) before (row ∷ next ∷ later),
        amount_append (swept_cost_part next.rank) before (row ∷ []),
      ),
    )

-- ---- one row of the walk

-- a row with the next one at the same price
again-rank : (rows : List Usable) (side : OrderSide) (row next : Usable) → row.rank ≡ rank_of side row.price
    → next.rank ≡ rank_of side next.price → (next.price ≡ row.price) → row.rank ≡ next.rank
again-rank rows side row next is also same = is ∙ ap (rank_of side) (sym same) ∙ sym also

pub swept_again : (rows : List Usable) (side : OrderSide) (shares : ℕ) (cost : ℤ) (row : Usable) (later : List Usable)
    → ((one : Usable) → In one (row ∷ later) → one.rank ≡ rank_of side one.price) → starts_at row.price later ≡ true
    → IsSweptNext rows shares cost (row ∷ later) → IsSweptNext rows shares cost later
swept_again rows side shares cost row [] ranks again is = tt
swept_again rows side shares cost row (next ∷ later) ranks again is =
    let same = again-rank rows side row next (ranks row (inl refl)) (ranks next (inr (inl refl))) (eqb-true next.price row.price again) in
    (is.0 ∙ ap (λ rank. swept rank rows) same, is.1 ∙ ap (λ rank. swept_cost rank rows) same)

in-behind : (before behind : List Usable) (one : Usable) → In one behind → In one (before ++ behind)
in-behind [] behind one within = within
in-behind (first ∷ before) behind one within = inr (in-behind before behind one within)

-- what holds at the last row of a price
pub record EndsAt (rows : List Usable) (i : ℕ) (row : Usable) (later : List Usable) : Type 0 where
  pub pool : swept row.rank rows + pool row.rank rows ≡ shown (take (i + 1) rows)
  pub next : IsSweptNext rows (total protected_part (take (i + 1) rows)) (amount protected_cost_part (take (i + 1) rows)) later

pub ranks_behind : (rows : List Usable) (i : ℕ) (row : Usable) (later : List Usable) (are : AreByPrice rows) → IsNextRow rows i row later
    → (one : Usable) → In one (row ∷ later) → one.rank ≡ rank_of are.side one.price
ranks_behind rows i row later are at one within =
    In-All (λ (other : Usable). other.rank ≡ rank_of are.side other.price) rows are.ranks one
    (subst (In one) (sym at.all) (in-behind (take i rows) (row ∷ later) one within))

pub ends_at : (rows : List Usable) (i : ℕ) (row : Usable) (later : List Usable) → AreByPrice rows → IsNextRow rows i row later
    → starts_at row.price later ≡ false → EndsAt rows i row later
ends_at rows i row later are at last =
    let before : List Usable = take i rows in
    let ranks = ranks_behind rows i row later are at in
    let ordered : Ordered Price (before ++ row ∷ later) =
    subst (Ordered Price) at.all (ordered_from Price rows (in_order_from Price rows are.ordered)) in
    let pools = pool-at are.side before row later ranks ordered last in
    let sweeps = swept-next are.side before row later ranks ordered last in
    record {
      pool = rw (at.taken) (subst (λ (all : List Usable). swept row.rank all + pool row.rank all ≡ shown (before ++ row ∷ [])) (sym at.all)
          pools);
      next = rw (at.taken)
          (subst (λ (all : List Usable). IsSweptNext all (total protected_part (before ++ row ∷ []))
          (amount protected_cost_part (before ++ row ∷ [])) later) (sym at.all) sweeps);
    }

-- the sums over one more row
pub record IsMore (before : Passed) (row : Usable) (passed : Passed) : Type 0 where
  pub rows : passed.rows ≡ before.rows + 1
  pub shown : passed.shown ≡ before.shown + row.size
  pub protected : passed.protected ≡ before.protected + protected_part row
  pub cost : passed.cost ≡ before.cost +ℤ protected_cost_part row
  pub size : row.size ≤ MOST_SIZE
  pub low : neg_ℤ (pos (2 ^ 100)) ≤ℤ protected_cost_part row
  pub high : protected_cost_part row ≤ℤ pos (2 ^ 100)

part-within : (row : Usable) → (row.protected ≡ true) ⊎ (row.protected ≡ false) → protected_part row ≤ row.size
part-within row (inl is) = rw is (omega arith)
part-within row (inr not_protected) = rw not_protected (omega arith)

total-one : (part : Usable → ℕ) (rows : List Usable) (row : Usable) → total part (rows ++ row ∷ []) ≡ total part rows + part row
unfolding total
total-one part rows row = omega (arith, total_append part rows (row ∷ []))

amount-one : (part : Usable → ℤ) (rows : List Usable) (row : Usable) → amount part (rows ++ row ∷ []) ≡ amount part rows +ℤ part row
unfolding amount
amount-one part rows row = omega (arith, ints, amount_append part rows (row ∷ []))

pub counted_more : (rows : List Usable) (row : Usable) (before passed : Passed) → IsCounted rows before → IsMore before row passed
    → IsCounted (rows ++ row ∷ []) passed
counted_more rows row before passed is more = record {
  shown = omega (arith, is.shown, more.shown, total-one (λ (one : Usable). one.size) rows row);
  protected = omega (arith, is.protected, more.protected, total-one protected_part rows row);
  cost = omega (arith, ints, is.cost, more.cost, amount-one protected_cost_part rows row);
  within = omega (arith, is.within, more.shown, more.rows, more.size);
  fewer = omega (arith, is.fewer, more.shown, more.protected, part-within row (cases_Bool row.protected));
  low = omega (arith, ints, is.low, more.cost, more.low, more.rows);
  high = omega (arith, ints, is.high, more.cost, more.high, more.rows);
}

-- ---- the answers of the walk

-- what is passed with one more row
pub record IsStep (rows : List Usable) (passed : Passed) (later : List Usable) : Type 0 where
  pub at : drop passed.rows rows ≡ later
  pub within : passed.rows ≤ length rows
  pub counted : IsCounted (take passed.rows rows) passed

pub stepped : (rows : List Usable) (before passed : Passed) (row : Usable) (later : List Usable) → IsNextRow rows before.rows row later
    → IsCounted (take before.rows rows) before → IsMore before row passed → IsStep rows passed later
stepped rows before passed row later at counted more =
    record {
      at = ap (λ n. drop n rows) more.rows ∙ at.left;
      within = omega (arith, at.within, more.rows);
      counted = subst (λ n. IsCounted (take n rows) passed) (sym more.rows)
          (subst (λ (all : List Usable). IsCounted all passed) (sym at.taken)
          (counted_more (take before.rows rows) row before passed counted more));
    }

-- the row is passed, and the next price begins
pub passed_at : (rows : List Usable) (before passed : Passed) (row : Usable) (later : List Usable) → AreByPrice rows
    → IsNextRow rows before.rows row later → starts_at row.price later ≡ false → IsMore before row passed
    → IsStep rows passed later → IsPassed rows passed
passed_at rows before passed row later are at last more step =
    let ends = ends_at rows before.rows row later are at last in
    let there : IsSweptNext rows (total protected_part (take passed.rows rows)) (amount protected_cost_part (take passed.rows rows)) later =
    subst (λ n. IsSweptNext rows (total protected_part (take n rows)) (amount protected_cost_part (take n rows)) later) (sym more.rows)
    ends.next in
    let shares = subst (λ n. IsSweptNext rows n (amount protected_cost_part (take passed.rows rows)) later) (sym step.counted.protected)
    there in
    let costs = subst (λ z. IsSweptNext rows passed.protected z later) (sym step.counted.cost) shares in
    record {
      by_price = are;
      within = step.within;
      counted = step.counted;
      next = subst (λ (all : List Usable). IsSweptNext rows passed.protected passed.cost all) (sym step.at) costs;
    }

-- no more rows are left
pub passed_all : (rows : List Usable) (passed : Passed) → AreByPrice rows → IsStep rows passed [] → IsPassed rows passed
passed_all rows passed are step = record {
  by_price = are;
  within = step.within;
  counted = step.counted;
  next = subst (λ (all : List Usable). IsSweptNext rows passed.protected passed.cost all) (sym step.at) tt;
}

cutoff-is : (price shares : ℕ) (cost : ℤ) (count : ℕ) (rows : List Usable) (row : Usable) → price ≡ row.price
    → (shares ≡ swept row.rank rows) × (cost ≡ swept_cost row.rank rows) → count ≡ pool row.rank rows
    → (let made : Cutoff = record { price = price; swept = shares; swept_cost = cost; pool = count } in made) ≡ cutoff_at rows row
cutoff-is price shares cost count rows row is sweeps pools = rw (is, sweeps.0, sweeps.1, pools) refl

pub gives_at : (rows start : List Usable) (row : Usable) (later left : List Usable) (price shares : ℕ) (cost : ℤ) (count : ℕ)
    → cutoffs_of rows start ≡ cutoffs_of rows (row ∷ later) → starts_at row.price later ≡ false
    → price ≡ row.price → (shares ≡ swept row.rank rows) × (cost ≡ swept_cost row.rank rows) → count ≡ pool row.rank rows → left ≡ later
    → GivesNext (cutoffs_of rows start) (Some (record { price = price; swept = shares; swept_cost = cost; pool = count }))
    (cutoffs_of rows left)
gives_at rows start row later left price shares cost count still last is sweeps pools rest =
    step (per_cases (cutoff_at rows) row later)
  where
    step : (starts_at row.price later ≡ true) × (cutoffs_of rows (row ∷ later) ≡ cutoffs_of rows later)
        ⊎ (starts_at row.price later ≡ false) × (cutoffs_of rows (row ∷ later) ≡ cutoff_at rows row ∷ cutoffs_of rows later)
        → GivesNext (cutoffs_of rows start) (Some (record { price = price; swept = shares; swept_cost = cost; pool = count }))
        (cutoffs_of rows left)
    step (inl again) = absurd (both_ways (starts_at row.price later) last again.0)
    step (inr ends) =
        subst (λ (all : List Cutoff). GivesNext all (Some (record { price = price; swept = shares; swept_cost = cost; pool = count }))
        (cutoffs_of rows left)) (sym (still ∙ ends.1))
        (ap Some (cutoff-is price shares cost count rows row is sweeps pools), ap (cutoffs_of rows) rest)

-- if the price comes again, nothing is given yet
pub still_at : (rows : List Usable) (row : Usable) (later : List Usable) → starts_at row.price later ≡ true
    → cutoffs_of rows (row ∷ later) ≡ cutoffs_of rows later
still_at rows row later again = step (per_cases (cutoff_at rows) row later)
  where
    step : (starts_at row.price later ≡ true) × (cutoffs_of rows (row ∷ later) ≡ cutoffs_of rows later)
        ⊎ (starts_at row.price later ≡ false) × (cutoffs_of rows (row ∷ later) ≡ cutoff_at rows row ∷ cutoffs_of rows later)
        → cutoffs_of rows (row ∷ later) ≡ cutoffs_of rows later
    step (inl is) = is.1
    step (inr ends) = absurd (both_ways (starts_at row.price later) ends.0 again)

none-of : (rows : List Usable) → cutoffs_of rows [] ≡ []
unfolding per_price
none-of rows = refl

pub gives_none : (rows start left : List Usable) → cutoffs_of rows start ≡ cutoffs_of rows [] → left ≡ []
    → GivesNext (cutoffs_of rows start) None (cutoffs_of rows left)
gives_none rows start left still rest =
    subst (λ (all : List Cutoff). GivesNext all None (cutoffs_of rows left)) (sym (still ∙ none-of rows))
    (refl, ap (cutoffs_of rows) rest ∙ none-of rows)

-- ---- where the walk begins

no-sums : (held : List Usable) → AreByPrice held → Ordered Price held → IsSweptNext held 0 (pos 0) held
no-sums [] are ordered = tt
no-sums (row ∷ later) are ordered = let none = first-sums row later ordered.0 in (sym none.0, sym none.1)

pub begins : (held : List Usable) (passed : Passed) → AreByPrice held → passed.rows ≡ 0 → passed.shown ≡ 0 → passed.protected ≡ 0
    → passed.cost ≡ pos 0 → IsPassed held passed
unfolding total amount
begins held passed are count none few free =
    let nothing : take passed.rows held ≡ [] = ap (λ n. take n held) count in
    record {
      by_price = are;
      within = omega (arith, count);
      counted = rw nothing (record {
        shown = none;
        protected = few;
        cost = free;
        within = omega (arith, none);
        fewer = omega (arith, few);
        low = omega (arith, ints, free);
        high = omega (arith, ints, free);
      });
      next = subst (λ n. IsSweptNext held passed.protected passed.cost (drop n held)) (sym count)
          (subst (λ n. IsSweptNext held n passed.cost held) (sym few)
          (subst (λ z. IsSweptNext held 0 z held) (sym free)
          (no-sums held are (ordered_from Price held (in_order_from Price held are.ordered)))));
    }

-- over no rows
pub begins_empty : IsPassed [] (record { rows = 0; shown = 0; protected = 0; cost = pos 0 })
begins_empty =
    begins [] (record { rows = 0; shown = 0; protected = 0; cost = pos 0 })
    (record {
      few = omega arith;
      ordered = λ i j d before within. absurd (omega (arith, within));
      side = side.Buy;
      ranks = λ i d within. absurd (omega (arith, within));
    }) refl refl refl refl
