-- What the cheapest shares of a pool cost is what the marginal says of them, less what it saves.
use Rattle.std.proofs.Common.{ℕ, ◌≡◌, ◌≤◌, ◌+◌, ◌-◌, true, false, ◌&&◌, List, [], ◌∷◌, Option, Some, None, ◌⊎◌, inl, inr, refl, ap, sym, ◌∙◌, subst}
use Rattle.std.proofs.Common.{arith, min, nat_le}
use Rattle.std.specs.Prelude.{ℤ, pos, ◌+ℤ◌, ◌-ℤ◌, ◌*ℤ◌, ◌≤ℤ◌}
use Rattle.std.specs.Int.{int_max}
use Rattle.std.specs.Option.{is_some, unwrap_or}
use Rattle.std.proofs.lemmas.Bool.{cases_Bool, cond-false, cond-true, false≢true}
use Rattle.std.proofs.lemmas.Int.{ints, clamps}
use Rattle.std.proofs.Math.IntN.{*ℤ-zero}
use Rattle.nms_quote.specs.declared.certificate.Cut.{Cut}
use Rattle.nms_quote.specs.declared.certificate.CutKind.{CutKind}
use Rattle.nms_quote.specs.declared.order.OrderSide.{OrderSide}
use Rattle.nms_rules.specs.Assignment.{amount, total}
use Rattle.nms_rules.specs.Cutoff.{is_pooled, least_cost, pool, pool_part, savings, savings_part}
use Rattle.nms_rules.specs.Usable.{Usable, rank_of}
use Rattle.nms_rules.proofs.Offered.{plus-times, pool-is, times-plus, zero-times}
use Rattle.nms_sweep.specs.Choice.{has_last, share_cost}
use Rattle.nms_sweep.specs.Cutoffs.{GivesNext, IsCutoffOf}
use Rattle.nms_sweep.specs.Order.{IsByCost}
use Rattle.nms_sweep.specs.Taken.{taken_cost}
use Rattle.nms_sweep.specs.declared.choice.Choice.{Choice}
use Rattle.nms_sweep.specs.declared.cutoffs.Cutoff.{Cutoff}
use Rattle.nms_sweep.specs.declared.row_order.Key.TheVariants.{Cost}
use Rattle.nms_sweep.proofs.MarginalLemmas.{not_less, pool-before, share-step}
use Rattle.nms_sweep.proofs.OrderLemmas.{NoLess, Ordered, in_order_from, ordered_from}

-- ---- one row

-- a share of no lower a cost saves nothing
dear-saves : (cutoff marginal : ℤ) (row : Usable) → marginal ≤ℤ row.cost → (is_pooled cutoff row ≡ true) ⊎ (is_pooled cutoff row ≡ false)
    → savings_part cutoff marginal row ≡ pos 0
dear-saves cutoff marginal row most (inl pooled) =
    let saved : int_max (marginal -ℤ row.cost) (pos 0) ≡ pos 0 = omega (arith, ints, clamps, most) in
    rw (pooled, saved) (zero-times row.size)
dear-saves cutoff marginal row most (inr out) = rw out refl

-- the difference, if the cost is no higher
cheap-saves : (cutoff marginal : ℤ) (row : Usable) → row.cost ≤ℤ marginal → (is_pooled cutoff row ≡ true) ⊎ (is_pooled cutoff row ≡ false)
    → row.cost *ℤ pos (pool_part cutoff row) +ℤ savings_part cutoff marginal row ≡ marginal *ℤ pos (pool_part cutoff row)
cheap-saves cutoff marginal row most (inl pooled) =
    let saved : int_max (marginal -ℤ row.cost) (pos 0) ≡ marginal -ℤ row.cost = omega (arith, ints, clamps, most) in
    let whole : row.cost +ℤ (marginal -ℤ row.cost) ≡ marginal = omega (arith, ints) in
    rw (pooled, saved) (omega (arith, ints, plus-times row.cost (marginal -ℤ row.cost) row.size, ap (λ z. z *ℤ pos row.size) whole))
cheap-saves cutoff marginal row most (inr out) = rw out (omega (arith, ints, *ℤ-zero row.cost, *ℤ-zero marginal))

-- ---- the rows

none-saved : (cutoff marginal : ℤ) (row : Usable) (rows : List Usable) → marginal ≤ℤ row.cost → NoLess Cost row rows
    → savings cutoff marginal rows ≡ pos 0
unfolding amount
none-saved cutoff marginal row [] most no_less = refl
none-saved cutoff marginal row (other ∷ rows) most no_less =
    omega (
      arith,
      ints,
      dear-saves cutoff marginal other (omega (arith, ints, most, no_less.0)) (cases_Bool (is_pooled cutoff other)),
      none-saved cutoff marginal row rows most no_less.1,
    )

-- no shares cost nothing
pub none_taken : (cutoff : ℤ) (rows : List Usable) → taken_cost cutoff 0 rows ≡ pos 0
unfolding taken_cost
none_taken cutoff [] = refl
none_taken cutoff (row ∷ rows) =
    let none : min 0 (pool_part cutoff row) ≡ 0 = omega arith in
    let rest : 0 - pool_part cutoff row ≡ 0 = omega arith in
    omega (arith, ints, ap (λ n. row.cost *ℤ pos n) none, *ℤ-zero row.cost, ap (λ n. taken_cost cutoff n rows) rest, none_taken cutoff rows)

-- the row that has the shares that are needed
pub taken_here : (cutoff : ℤ) (number : ℕ) (row : Usable) (rows : List Usable) → is_pooled cutoff row ≡ true → number ≤ row.size
    → taken_cost cutoff number (row ∷ rows) ≡ row.cost *ℤ pos number
unfolding taken_cost
taken_here cutoff number row rows pooled enough =
    let all : min number (pool_part cutoff row) ≡ number = omega (arith, pool-is cutoff row pooled, enough) in
    let rest : number - pool_part cutoff row ≡ 0 = omega (arith, pool-is cutoff row pooled, enough) in
    omega (arith, ints, ap (λ n. row.cost *ℤ pos n) all, ap (λ n. taken_cost cutoff n rows) rest, none_taken cutoff rows)

-- one that has fewer
pub taken_later : (cutoff : ℤ) (number : ℕ) (row : Usable) (rows : List Usable) → pool_part cutoff row ≤ number
    → taken_cost cutoff number (row ∷ rows) ≡ row.cost *ℤ pos (pool_part cutoff row) +ℤ taken_cost cutoff (number
    - pool_part cutoff row) rows
unfolding taken_cost
taken_later cutoff number row rows part =
    let all : min number (pool_part cutoff row) ≡ pool_part cutoff row = omega (arith, part) in
    omega (arith, ints, ap (λ n. row.cost *ℤ pos n) all)

pub taken_saves : (cutoff : ℤ) (number : ℕ) (last : ℤ) (rows : List Usable) → Ordered Cost rows → number ≤ pool cutoff rows
    → taken_cost cutoff number rows +ℤ savings cutoff (share_cost cutoff number last rows) rows
    ≡ share_cost cutoff number last rows *ℤ pos number
unfolding share_cost taken_cost total amount
taken_saves cutoff number last [] ordered few = let none : number ≡ 0 = omega (arith, few) in
    omega (arith, ints, *ℤ-zero last, ap (λ n. last *ℤ pos n) none)
taken_saves cutoff number last (row ∷ rows) ordered few =
    step (taken_saves cutoff (number - pool_part cutoff row) row.cost rows ordered.1)
    (share-step cutoff number last row rows (cases_Bool (is_pooled cutoff row && nat_le number row.size)))
  where
    here : is_pooled cutoff row ≡ true → number ≤ row.size → taken_cost cutoff number (row ∷ rows) +ℤ savings cutoff row.cost (row ∷ rows)
        ≡ row.cost *ℤ pos number
    here pooled enough =
        omega (
          arith,
          ints,
          taken_here cutoff number row rows pooled enough,
          dear-saves cutoff row.cost row (omega (arith, ints)) (inl pooled),
          none-saved cutoff row.cost row rows (omega (arith, ints)) ordered.0,
        )

    later : (marginal : ℤ) → row.cost ≤ℤ marginal → pool_part cutoff row ≤ number
        → taken_cost cutoff (number - pool_part cutoff row) rows +ℤ savings cutoff marginal rows
        ≡ marginal *ℤ pos (number - pool_part cutoff row)
        → taken_cost cutoff number (row ∷ rows) +ℤ savings cutoff marginal (row ∷ rows) ≡ marginal *ℤ pos number
    later marginal most part rest =
        let whole : pool_part cutoff row + (number - pool_part cutoff row) ≡ number = omega (arith, part) in
        omega (
          arith,
          ints,
          rest,
          taken_later cutoff number row rows part,
          cheap-saves cutoff marginal row most (cases_Bool (is_pooled cutoff row)),
          times-plus marginal (pool_part cutoff row) (number - pool_part cutoff row),
          ap (λ n. marginal *ℤ pos n) whole,
        )

    step : (number - pool_part cutoff row ≤ pool cutoff rows
        → taken_cost cutoff (number - pool_part cutoff row) rows +ℤ savings cutoff
        (share_cost cutoff (number - pool_part cutoff row) row.cost rows) rows
        ≡ share_cost cutoff (number - pool_part cutoff row) row.cost rows *ℤ pos (number - pool_part cutoff row))
        → (is_pooled cutoff row ≡ true) × (number ≤ row.size) × (share_cost cutoff number last (row ∷ rows) ≡ row.cost)
        ⊎ (pool_part cutoff row ≤ number) × (share_cost cutoff number last (row ∷ rows)
        ≡ share_cost cutoff (number - pool_part cutoff row) row.cost rows)
        → taken_cost cutoff number (row ∷ rows) +ℤ savings cutoff (share_cost cutoff number last (row ∷ rows)) (row ∷ rows)
        ≡ share_cost cutoff number last (row ∷ rows) *ℤ pos number
    step rest (inl at) =
        subst (λ marginal. taken_cost cutoff number (row ∷ rows) +ℤ savings cutoff marginal (row ∷ rows) ≡ marginal *ℤ pos number)
        (sym at.2) (here at.0 at.1)
    step rest (inr at) =
        let marginal = share_cost cutoff (number - pool_part cutoff row) row.cost rows in
        subst (λ marginal. taken_cost cutoff number (row ∷ rows) +ℤ savings cutoff marginal (row ∷ rows) ≡ marginal *ℤ pos number)
        (sym at.1)
        (later marginal (not_less cutoff (number - pool_part cutoff row) row.cost rows ordered.0 ordered.1) at.0
        (rest (omega (arith, at.0, few))))

-- the walk ends
pub share_here : (cutoff : ℤ) (number : ℕ) (last : ℤ) (row : Usable) (rows : List Usable) → has_last cutoff number row ≡ true
    → share_cost cutoff number last (row ∷ rows) ≡ row.cost
unfolding share_cost
share_here cutoff number last row rows is =
    cond-true (has_last cutoff number row) row.cost (share_cost cutoff (number - pool_part cutoff row) row.cost rows) is

-- the walk goes on
pub share_later : (cutoff : ℤ) (number : ℕ) (last : ℤ) (row : Usable) (rows : List Usable) → has_last cutoff number row ≡ false
    → (pool_part cutoff row ≤ number) × (share_cost cutoff number last (row ∷ rows)
    ≡ share_cost cutoff (number - pool_part cutoff row) row.cost rows)
unfolding share_cost
share_later cutoff number last row rows later = (
  pool-before cutoff number row later (cases_Bool (is_pooled cutoff row)),
  cond-false (has_last cutoff number row) row.cost (share_cost cutoff (number - pool_part cutoff row) row.cost rows) later,
)

-- ---- a cutoff

-- what is swept and what is taken cost together what the marginal says
pub offer_is : (side : OrderSide) (by_cost : List Usable) (most : ℕ) (cutoff : Cutoff) (marginal cost : ℤ) → IsByCost by_cost
    → IsCutoffOf side by_cost cutoff → most - cutoff.swept ≤ cutoff.pool
    → marginal ≡ share_cost (rank_of side cutoff.price) (most - cutoff.swept) (pos 0) by_cost
    → cost ≡ cutoff.swept_cost +ℤ taken_cost (rank_of side cutoff.price) (most - cutoff.swept) by_cost
    → cost ≡ least_cost by_cost most (rank_of side cutoff.price) marginal
offer_is side by_cost most cutoff marginal cost ordered is reaches last paid =
    let rank = rank_of side cutoff.price in
    let saves = taken_saves rank (most - cutoff.swept) (pos 0) by_cost (ordered_from Cost by_cost (in_order_from Cost by_cost ordered))
    (omega (arith, reaches, is.pool)) in
    let saves' = subst (λ z. taken_cost rank (most - cutoff.swept) by_cost +ℤ savings rank z by_cost ≡ z *ℤ pos (most - cutoff.swept))
    (sym last) saves in
    omega (arith, ints, paid, is.swept_cost, saves', ap (λ n. marginal *ℤ pos (most - n)) is.swept)

-- what a cutoff offers
abbrev pub choice_of : ℤ → ℤ → ℤ → Choice
choice_of cutoff marginal cost = record { cutoff = cutoff; marginal = marginal; cost = cost }

pub choice_same : (cutoff other marginal cost paid : ℤ) → cutoff ≡ other → cost ≡ paid
    → Some (choice_of cutoff marginal cost) ≡ Some (choice_of other marginal paid)
choice_same cutoff other marginal cost paid e f = ap (λ z. Some (choice_of z marginal cost)) e
    ∙ ap (λ z. Some (choice_of other marginal z)) f

abbrev pub cut_with : ℕ → CutKind → Cut
cut_with price kind = record { price = price; kind = kind }

-- ---- the cutoffs to come

-- the one that is given was the first of them
came : (coming : List Cutoff) (cutoff : Cutoff) (later : List Cutoff) → GivesNext coming (Some cutoff) later → coming ≡ cutoff ∷ later
came [] cutoff later is = absurd (false≢true (sym (ap is_some is.0)))
came (first ∷ coming) cutoff later is = step (some-same cutoff first is.0)
  where
    some-same : (one other : Cutoff) → Some one ≡ Some other → one ≡ other
    some-same one other e = ap (λ found. unwrap_or found one) e

    step : cutoff ≡ first → first ∷ coming ≡ cutoff ∷ later
    step e = ap (λ (one : Cutoff). one ∷ coming) (sym e) ∙ ap (λ (more : List Cutoff). cutoff ∷ more) (sym is.1)

-- so too if it is known later which one was given
pub came_as : (coming : List Cutoff) (given : Option Cutoff) (cutoff : Cutoff) (later : List Cutoff) → given ≡ Some cutoff
    → GivesNext coming given later → coming ≡ cutoff ∷ later
came_as coming given cutoff later is next = came coming cutoff later (subst (λ (one : Option Cutoff). GivesNext coming one later) is next)

-- if none is given, there was none
none_came : (coming later : List Cutoff) → GivesNext coming None later → coming ≡ []
none_came [] later is = refl
none_came (first ∷ coming) later is = absurd (false≢true (ap is_some is.0))

pub none_came_as : (coming : List Cutoff) (given : Option Cutoff) (later : List Cutoff) → given ≡ None → GivesNext coming given later
    → coming ≡ []
none_came_as coming given later is next = none_came coming later (subst (λ (one : Option Cutoff). GivesNext coming one later) is next)
