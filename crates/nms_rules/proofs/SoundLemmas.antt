-- An accepted certificate shows that a plan is optimal. Another assignment trades at some price and at no worse one:
-- the cut there says that it fills no more, or that it costs no less.
use Rattle.std.proofs.Common.{ℕ, ◌≡◌, ◌<◌, ◌≤◌, ◌+◌, ◌-◌, true, List, [], ◌∷◌, ◌⊎◌, inl, inr, refl, ap, sym, ◌∙◌, subst, arith}
use Rattle.std.specs.Prelude.{ℤ, pos, ◌+ℤ◌, ◌*ℤ◌, ◌<ℤ◌, ◌≤ℤ◌}
use Rattle.std.specs.Int.RustNames.{int_lt}
use Rattle.std.specs.List.{AllByRecursion}
use Rattle.std.proofs.lemmas.Bool.{cases_lt, and_parts}
use Rattle.std.proofs.lemmas.Int.{ints}
use Rattle.std.proofs.lemmas.List.Elements.{recursion_from_All}
use Rattle.nms_quote.specs.declared.certificate.CutKind.{CutKind}
use Rattle.nms_quote.specs.declared.certificate.CutKind.TheVariants.{TooMuch, TooLittle, Marginal}
use Rattle.nms_rules.specs.Assignment.{Assignment, IsLawful, IsOptimal, SweepsBetter, amount, fillable, filled, total, total_cost}
use Rattle.nms_rules.specs.Cutoff.{KindHolds, is_swept, least_cost, pool, pool_part, savings, savings_part, swept, swept_cost}
use Rattle.nms_rules.specs.Cutoff.{swept_cost_part, swept_part}
use Rattle.nms_rules.specs.Usable.{Usable}
use Rattle.nms_rules.proofs.CutoffLemmas.{Passes, Pools, Sweeps, cost-is, cost-not, places, pool-is, savings-is, savings-not, swept-is}
use Rattle.nms_rules.proofs.CutoffLemmas.{swept-not}
use Rattle.nms_rules.proofs.SignedLemmas.{cases_int, lt-true, saves, times-plus}
use Rattle.std.proofs.Math.IntN.{*ℤ-zero}

-- ---- one row of an assignment that trades at the cutoff and at no worse price

record Fits (cutoff : ℤ) (given : Assignment) (row : Usable) : Type 0 where
  pub within : given row.part ≤ row.size
  pub sweeps : is_swept cutoff row ≡ true → given row.part ≡ row.size
  pub beyond : cutoff <ℤ row.rank → given row.part ≡ 0

-- ---- what one row gets and costs

row-enough : (cutoff : ℤ) (given : Assignment) (row : Usable) → Fits cutoff given row
    → Sweeps cutoff row ⊎ (Pools cutoff row ⊎ Passes cutoff row) → swept_part cutoff row ≤ given row.part
row-enough cutoff given row fits (inl at) = omega (arith, swept-is cutoff row at.is, fits.sweeps at.is)
row-enough cutoff given row fits (inr (inl at)) = omega (arith, swept-not cutoff row at.is)
row-enough cutoff given row fits (inr (inr at)) = omega (arith, swept-not cutoff row at.is)

row-most : (cutoff : ℤ) (given : Assignment) (row : Usable) → Fits cutoff given row
    → Sweeps cutoff row ⊎ (Pools cutoff row ⊎ Passes cutoff row) → given row.part ≤ swept_part cutoff row + pool_part cutoff row
row-most cutoff given row fits (inl at) = omega (arith, swept-is cutoff row at.is, fits.within)
row-most cutoff given row fits (inr (inl at)) = omega (arith, pool-is cutoff row at.pooled, fits.within)
row-most cutoff given row fits (inr (inr at)) = omega (arith, fits.beyond at.beyond)

-- duality, without a difference
RowBound : ℤ → ℤ → Assignment → Usable → Type 0
RowBound cutoff marginal given row =
    (swept_cost_part cutoff row +ℤ marginal *ℤ pos (given row.part)) ≤ℤ
    (row.cost *ℤ pos (given row.part) +ℤ marginal *ℤ pos (swept_part cutoff row) +ℤ savings_part cutoff marginal row)

row-bound : (cutoff marginal : ℤ) (given : Assignment) (row : Usable) → Fits cutoff given row
    → Sweeps cutoff row ⊎ (Pools cutoff row ⊎ Passes cutoff row) → RowBound cutoff marginal given row
unfolding RowBound
row-bound cutoff marginal given row fits (inl at) =
    rw (swept-is cutoff row at.is, cost-is cutoff row at.is, savings-not cutoff marginal row at.pooled, fits.sweeps at.is)
    (omega (arith, ints))
row-bound cutoff marginal given row fits (inr (inl at)) =
    rw (swept-not cutoff row at.is, cost-not cutoff row at.is, savings-is cutoff marginal row at.pooled)
    (omega (arith, ints, *ℤ-zero marginal, saves marginal row.cost (given row.part) row.size fits.within))
row-bound cutoff marginal given row fits (inr (inr at)) =
    rw (swept-not cutoff row at.is, cost-not cutoff row at.is, savings-not cutoff marginal row at.pooled, fits.beyond at.beyond)
    (omega (arith, ints, *ℤ-zero marginal, *ℤ-zero row.cost))

-- ---- and all rows

enough : (cutoff : ℤ) (given : Assignment) (rows : List Usable) → AllByRecursion (Fits cutoff given) rows
    → swept cutoff rows ≤ filled given rows
unfolding total
enough cutoff given [] each = omega arith
enough cutoff given (row ∷ rows) each = omega (
  arith,
  row-enough cutoff given row each.0 (places cutoff row),
  enough cutoff given rows each.1,
)

most : (cutoff : ℤ) (given : Assignment) (rows : List Usable) → AllByRecursion (Fits cutoff given) rows
    → filled given rows ≤ swept cutoff rows + pool cutoff rows
unfolding total
most cutoff given [] each = omega arith
most cutoff given (row ∷ rows) each = omega (arith, row-most cutoff given row each.0 (places cutoff row), most cutoff given rows each.1)

bound : (cutoff marginal : ℤ) (given : Assignment) (rows : List Usable) → AllByRecursion (Fits cutoff given) rows
    → (swept_cost cutoff rows +ℤ marginal *ℤ pos (filled given rows)) ≤ℤ
    (total_cost given rows +ℤ marginal *ℤ pos (swept cutoff rows) +ℤ savings cutoff marginal rows)
unfolding total amount RowBound
bound cutoff marginal given [] each = omega (arith, ints)
bound cutoff marginal given (row ∷ rows) each =
    omega (
      arith,
      ints,
      row-bound cutoff marginal given row each.0 (places cutoff row),
      bound cutoff marginal given rows each.1,
      times-plus marginal (given row.part) (filled given rows),
      times-plus marginal (swept_part cutoff row) (swept cutoff rows),
    )

-- it costs no less than the marginal says
no_less : (cutoff marginal : ℤ) (given : Assignment) (rows : List Usable) → AllByRecursion (Fits cutoff given) rows
    → least_cost rows (filled given rows) cutoff marginal ≤ℤ total_cost given rows
no_less cutoff marginal given rows each =
    let rest : filled given rows ≡ swept cutoff rows + (filled given rows - swept cutoff rows) =
    omega (arith, enough cutoff given rows each) in
    omega (
      arith,
      ints,
      bound cutoff marginal given rows each,
      ap (λ n. marginal *ℤ pos n) rest,
      times-plus marginal (swept cutoff rows) (filled given rows - swept cutoff rows),
    )

-- ---- the worst price that an assignment trades at

-- a row that gets shares, if no row at a worse price does
record IsWorst (P : Usable → Type 0) (given : Assignment) (rows : List Usable) (row : Usable) : Type 0 where
  pub holds : P row
  pub some : 0 < given row.part
  pub beyond : AllByRecursion (λ other. row.rank <ℤ other.rank → given other.part ≡ 0) rows

none-beyond : (given : Assignment) (rank : ℤ) (rows : List Usable) → AllByRecursion (λ row. given row.part ≡ 0) rows
    → AllByRecursion (λ other. rank <ℤ other.rank → given other.part ≡ 0) rows
none-beyond given rank [] none = tt
none-beyond given rank (row ∷ rows) none = ((λ _. none.0), none-beyond given rank rows none.1)

farther : (given : Assignment) (near far : ℤ) (rows : List Usable) → near ≤ℤ far
    → AllByRecursion (λ other. near <ℤ other.rank → given other.part ≡ 0) rows
    → AllByRecursion (λ other. far <ℤ other.rank → given other.part ≡ 0) rows
farther given near far [] order beyond = tt
farther given near far (row ∷ rows) order beyond =
    ((λ past. beyond.0 (omega (arith, ints, order, past))), farther given near far rows order beyond.1)

worst-step : (P : Usable → Type 0) (given : Assignment) (row : Usable) (rows : List Usable) → P row
    → (0 < given row.part) ⊎ (given row.part ≤ 0) → AllByRecursion (λ other. given other.part ≡ 0) rows
    ⊎ ((other : Usable) × IsWorst P given rows other)
    → ((other : Usable) → IsWorst P given rows other → (other.rank <ℤ row.rank) ⊎ (row.rank ≤ℤ other.rank))
    → AllByRecursion (λ other. given other.part ≡ 0) (row ∷ rows) ⊎ ((other : Usable) × IsWorst P given (row ∷ rows) other)
worst-step P given row rows holds (inr none) (inl rest) order = inl (omega (arith, none), rest)
worst-step P given row rows holds (inl some) (inl rest) order =
    inr (
      row,
      record {
        holds = holds;
        some = some;
        beyond = ((λ past. absurd (omega (arith, ints, past))), none-beyond given row.rank rows rest);
      },
    )
worst-step P given row rows holds (inr none) (inr rest) order =
    inr (rest.0, record { holds = rest.1.holds; some = rest.1.some; beyond = ((λ past. omega (arith, none)), rest.1.beyond) })
worst-step P given row rows holds (inl some) (inr rest) order = worse (order rest.0 rest.1)
  where
    worse : (rest.0.rank <ℤ row.rank) ⊎ (row.rank ≤ℤ rest.0.rank)
        → AllByRecursion (λ other. given other.part ≡ 0) (row ∷ rows) ⊎ ((other : Usable) × IsWorst P given (row ∷ rows) other)
    worse (inl less) = inr (
      row,
      record {
        holds = holds;
        some = some;
        beyond = (
          (λ past. absurd (omega (arith, ints, past))),
          farther given rest.0.rank row.rank rows (omega (arith, ints, less)) rest.1.beyond,
        );
      },
    )
    worse (inr most) = inr (
      rest.0,
      record {
        holds = rest.1.holds;
        some = rest.1.some;
        beyond =
            ((λ past. absurd (omega (arith, ints, most, past))), rest.1.beyond);
      },
    )

worst : (P : Usable → Type 0) (given : Assignment) (rows : List Usable) → AllByRecursion P rows
    → AllByRecursion (λ row. given row.part ≡ 0) rows ⊎ ((row : Usable) × IsWorst P given rows row)
worst P given [] each = inl tt
worst P given (row ∷ rows) each =
    worst-step P given row rows each.0 (cases_lt 0 (given row.part)) (worst P given rows each.1) (λ other _. cases_int other.rank row.rank)

-- ---- an assignment that trades at a price and at no worse one

fits_all : (cutoff : ℤ) (given : Assignment) (rows : List Usable) → AllByRecursion (λ row. given row.part ≤ row.size) rows
    → AllByRecursion (λ other. other.protected ≡ true → other.rank <ℤ cutoff → given other.part ≡ other.size) rows
    → AllByRecursion (λ other. cutoff <ℤ other.rank → given other.part ≡ 0) rows → AllByRecursion (Fits cutoff given) rows
fits_all cutoff given [] within sweeps beyond = tt
fits_all cutoff given (row ∷ rows) within sweeps beyond = (
  record {
    within = within.0;
    sweeps = (λ is. let parts = and_parts row.protected (int_lt row.rank cutoff) is in
        sweeps.0 parts.0 (lt-true row.rank cutoff parts.1));
    beyond = beyond.0;
  },
  fits_all cutoff given rows within.1 sweeps.1 beyond.1,
)

-- nothing given, nothing filled, and nothing paid
none-filled : (given : Assignment) (rows : List Usable) → AllByRecursion (λ row. given row.part ≡ 0) rows → filled given rows ≡ 0
unfolding total
none-filled given [] none = refl
none-filled given (row ∷ rows) none = omega (arith, none.0, none-filled given rows none.1)

filled-none : (given : Assignment) (rows : List Usable) → filled given rows ≡ 0 → AllByRecursion (λ row. given row.part ≡ 0) rows
unfolding total
filled-none given [] none = tt
filled-none given (row ∷ rows) none = (omega (arith, none), filled-none given rows (omega (arith, none)))

none-paid : (given : Assignment) (rows : List Usable) → AllByRecursion (λ row. given row.part ≡ 0) rows → total_cost given rows ≡ pos 0
unfolding amount
none-paid given [] none = refl
none-paid given (row ∷ rows) none = omega (arith, ints, none-paid given rows none.1, *ℤ-zero row.cost, ap (λ n. row.cost *ℤ pos n) none.0)

-- ---- soundness

-- each price that may be traded at has a cut that holds
HasCut : List Usable → ℕ → ℤ → Usable → Type 0
HasCut rows most cost row = (kind : CutKind) × KindHolds rows most cost row.rank kind

both : (P Q : Usable → Type 0) (rows : List Usable) → AllByRecursion P rows → AllByRecursion Q rows
    → AllByRecursion (λ row. P row × Q row) rows
both P Q [] one other = tt
both P Q (row ∷ rows) one other = ((one.0, other.0), both P Q rows one.1 other.1)

by_kind : (rows : List Usable) (cost cutoff : ℤ) (given : Assignment) → AllByRecursion (Fits cutoff given) rows → (kind : CutKind)
    → KindHolds rows (filled given rows) cost cutoff kind → cost ≤ℤ total_cost given rows
by_kind rows cost cutoff given fits TooMuch less = absurd (omega (arith, less, enough cutoff given rows fits))
by_kind rows cost cutoff given fits TooLittle more = absurd (omega (arith, more, most cutoff given rows fits))
by_kind rows cost cutoff given fits (Marginal marginal) bounded =
    omega (arith, ints, bounded.bound, no_less cutoff marginal given rows fits)

cheapest-step : (rows : List Usable) (asked : ℕ) (mine other : Assignment) → IsLawful rows asked other
    → filled other rows ≡ filled mine rows
    → AllByRecursion (λ row. other row.part ≡ 0) rows
    ⊎ ((row : Usable) × IsWorst (λ one. HasCut rows (filled mine rows) (total_cost mine rows) one
    × (0 < other one.part → SweepsBetter rows other one)) other rows row) → total_cost mine rows ≤ℤ total_cost other rows
unfolding HasCut
cheapest-step rows asked mine other lawful same (inl none) =
    let nothing = filled-none mine rows (sym same ∙ none-filled other rows none) in
    omega (arith, ints, none-paid mine rows nothing, none-paid other rows none)
cheapest-step rows asked mine other lawful same (inr worst) =
    let row = worst.0 in
    let is = worst.1 in
    let sweeps = recursion_from_All (λ (one : Usable). one.protected ≡ true → one.rank <ℤ row.rank → other one.part ≡ one.size) rows
    (is.holds.1 is.some) in
    let fits = fits_all row.rank other rows (recursion_from_All (λ (one : Usable). other one.part ≤ one.size) rows lawful.within) sweeps
    is.beyond in
    by_kind rows (total_cost mine rows) row.rank other fits is.holds.0.0
    (subst (λ n. KindHolds rows n (total_cost mine rows) row.rank is.holds.0.0) (sym same) is.holds.0.1)

filled-within : (given : Assignment) (rows : List Usable) → AllByRecursion (λ row. given row.part ≤ row.size) rows
    → filled given rows ≤ total (λ row. row.size) rows
unfolding total
filled-within given [] within = omega arith
filled-within given (row ∷ rows) within = omega (arith, within.0, filled-within given rows within.1)

pub sound : (rows : List Usable) (asked : ℕ) (mine : Assignment) → IsLawful rows asked mine → filled mine rows ≡ fillable rows asked
    → AllByRecursion (λ row. (kind : CutKind) × KindHolds rows (fillable rows asked) (total_cost mine rows) row.rank kind) rows
    → IsOptimal rows asked mine
unfolding HasCut
sound rows asked mine lawful full cuts = record {
  lawful = lawful;
  most = λ other is. omega (
    arith,
    full,
    is.at_most,
    filled-within other rows (recursion_from_All (λ (row : Usable). other row.part ≤ row.size) rows is.within),
  );
  cheapest = λ other is same.
      let here = subst (λ n. AllByRecursion (λ row. (kind : CutKind) × KindHolds rows n (total_cost mine rows) row.rank kind) rows)
      (sym full) cuts in
      cheapest-step rows asked mine other is same
      (worst (λ one. HasCut rows (filled mine rows) (total_cost mine rows) one × (0 < other one.part → SweepsBetter rows other one)) other
      rows
      (both (HasCut rows (filled mine rows) (total_cost mine rows)) (λ (row : Usable). 0 < other row.part → SweepsBetter rows other row)
      rows here (recursion_from_All (λ (row : Usable). 0 < other row.part → SweepsBetter rows other row) rows is.swept)));
}
