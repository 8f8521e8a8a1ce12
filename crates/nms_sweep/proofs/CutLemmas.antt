-- What each price makes, best first: its cutoff, its cut.
use Rattle.std.proofs.Common.{ℕ, ◌≡◌, true, false, ◌≤◌, length, map, List, [], ◌∷◌, ◌⊎◌, inl, inr, refl, ap, sym, ◌∙◌, subst, arith}
use Rattle.std.specs.Prelude.{ℤ, ◌<ℤ◌, ◌≤ℤ◌, AllPairs}
use Rattle.std.proofs.lemmas.Bool.{both_ways, cases_Bool, cond-true, cond-false, eqb-false, eqb-true, false≢true}
use Rattle.std.proofs.lemmas.Int.{by_lt_z, ints}
use Rattle.std.proofs.lemmas.List.Kept.{AllPairs-cons}
use Rattle.nms_quote.specs.declared.certificate.Cut.{Cut}
use Rattle.nms_quote.specs.declared.certificate.CutKind.{CutKind}
use Rattle.nms_quote.specs.declared.order.OrderSide.{OrderSide}
use Rattle.nms_quote.specs.declared.order.OrderSide.TheVariants.{Buy, Sell}
use Rattle.nms_rules.specs.Cutoff.{pool, swept}
use Rattle.nms_rules.specs.Usable.{Usable, is_better, rank_of}
use Rattle.nms_rules.proofs.Offered.{All-In, In, better-from-rank}
use Rattle.nms_sweep.specs.Choice.{kind_by, per_price, starts_at}
use Rattle.nms_sweep.specs.declared.row_order.Key.TheVariants.{Price}
use Rattle.nms_sweep.proofs.OrderLemmas.{NoLess, Ordered}

-- a row whose price comes again makes nothing
per-step : {X : Type 0} (made : Usable → X) (row : Usable) (rows : List Usable)
    → (starts_at row.price rows ≡ true) ⊎ (starts_at row.price rows ≡ false)
    → (starts_at row.price rows ≡ true) × (per_price made (row ∷ rows) ≡ per_price made rows) ⊎ (starts_at row.price rows ≡ false)
    × (per_price made (row ∷ rows) ≡ made row ∷ per_price made rows)
unfolding per_price
per-step made row rows (inl again) = inl (
  again,
  cond-true (starts_at row.price rows) (per_price made rows) (made row
      ∷ per_price made rows) again,
)
per-step made row rows (inr last) = inr (
  last,
  cond-false (starts_at row.price rows) (per_price made rows) (made row
      ∷ per_price made rows) last,
)

pub per_cases : {X : Type 0} (made : Usable → X) (row : Usable) (rows : List Usable)
    → (starts_at row.price rows ≡ true) × (per_price made (row ∷ rows) ≡ per_price made rows) ⊎ (starts_at row.price rows ≡ false)
    × (per_price made (row ∷ rows) ≡ made row ∷ per_price made rows)
per_cases made row rows = per-step made row rows (cases_Bool (starts_at row.price rows))

-- no more are made than there are rows
pub per_few : {X : Type 0} (made : Usable → X) (rows : List Usable) → length (per_price made rows) ≤ length rows
unfolding per_price
per_few made [] = omega arith
per_few {X} made (row ∷ rows) = step (per_few made rows) (per_cases made row rows)
  where
    step : length (per_price made rows) ≤ length rows
        → (starts_at row.price rows ≡ true) × (per_price made (row ∷ rows) ≡ per_price made rows) ⊎ (starts_at row.price rows ≡ false)
        × (per_price made (row ∷ rows) ≡ made row ∷ per_price made rows)
        → length (per_price made (row ∷ rows)) ≤ length (row ∷ rows)
    step rest (inl is) = omega (arith, rest, ap length is.1)
    step rest (inr is) = omega (arith, rest, ap length is.1)

-- what is made of that
pub map_per_price : {X Y : Type 0} (f : X → Y) (made : Usable → X) (other : Usable → Y) (rows : List Usable)
    → ((row : Usable) → In row rows → f (made row) ≡ other row) → map f (per_price made rows) ≡ per_price other rows
unfolding per_price
map_per_price f made other [] each = refl
map_per_price {X} {Y} f made other (row ∷ rows) each =
    step (map_per_price f made other rows (λ one within. each one (inr within))) (per_cases made row rows) (per_cases other row rows)
  where
    step : map f (per_price made rows) ≡ per_price other rows
        → (starts_at row.price rows ≡ true) × (per_price made (row ∷ rows) ≡ per_price made rows) ⊎ (starts_at row.price rows ≡ false)
        × (per_price made (row ∷ rows) ≡ made row ∷ per_price made rows)
        → (starts_at row.price rows ≡ true) × (per_price other (row ∷ rows) ≡ per_price other rows) ⊎ (starts_at row.price rows ≡ false)
        × (per_price other (row ∷ rows) ≡ other row ∷ per_price other rows)
        → map f (per_price made (row ∷ rows)) ≡ per_price other (row ∷ rows)
    step rest (inl is) (inl also) = ap (map f) is.1 ∙ rest ∙ sym also.1
    step rest (inl is) (inr also) = absurd (both_ways (starts_at row.price rows) also.0 is.0)
    step rest (inr is) (inl also) = absurd (both_ways (starts_at row.price rows) is.0 also.0)
    step rest (inr is) (inr also) =
        ap (map f) is.1 ∙ ap (λ (one : Y). one ∷ map f (per_price made rows)) (each row (inl refl))
        ∙ ap (λ (more : List Y). other row ∷ more) rest ∙ sym also.1

-- ---- each is made of a row, and each price has its own

pub made_of : {X : Type 0} (made : Usable → X) (rows : List Usable) (x : X) → In x (per_price made rows)
    → (row : Usable) × In row rows × (x ≡ made row)
unfolding per_price
made_of made [] x within = absurd within
made_of {X} made (row ∷ rows) x within = step (made_of made rows x) (per_cases made row rows)
  where
    here : (In x (per_price made rows) → (one : Usable) × In one rows × (x ≡ made one)) → (x ≡ made row) ⊎ In x (per_price made rows)
        → (one : Usable) × In one (row ∷ rows) × (x ≡ made one)
    here rest (inl e) = (row, inl refl, e)
    here rest (inr more) = let at = rest more in (at.0, inr at.1, at.2)

    step : (In x (per_price made rows) → (one : Usable) × In one rows × (x ≡ made one))
        → (starts_at row.price rows ≡ true) × (per_price made (row ∷ rows) ≡ per_price made rows) ⊎ (starts_at row.price rows ≡ false)
        × (per_price made (row ∷ rows) ≡ made row ∷ per_price made rows)
        → (one : Usable) × In one (row ∷ rows) × (x ≡ made one)
    step rest (inl is) = let at = rest (subst (In x) is.1 within) in (at.0, inr at.1, at.2)
    step rest (inr is) = here rest (subst (In x) is.1 within)

-- the first of later rows has that price
next-at : (price : ℕ) (rows : List Usable) → starts_at price rows ≡ true → (row : Usable) × In row rows × (row.price ≡ price)
next-at price [] again = absurd (false≢true again)
next-at price (row ∷ rows) again = (row, inl refl, eqb-true row.price price again)

pub made_for : {X : Type 0} (made : Usable → X) (rows : List Usable) (row : Usable) → In row rows
    → (one : Usable) × In (made one) (per_price made rows) × (one.price ≡ row.price)
unfolding per_price
made_for made [] row within = absurd within
made_for {X} made (first ∷ rows) row within = step (made_for made rows) (per_cases made first rows) within
  where
    step : ((one : Usable) → In one rows → (other : Usable) × In (made other) (per_price made rows) × (other.price ≡ one.price))
        → (starts_at first.price rows ≡ true) × (per_price made (first ∷ rows) ≡ per_price made rows) ⊎ (starts_at first.price rows ≡ false)
        × (per_price made (first ∷ rows) ≡ made first ∷ per_price made rows)
        → (row ≡ first) ⊎ In row rows → (other : Usable) × In (made other) (per_price made (first ∷ rows)) × (other.price ≡ row.price)
    step rest (inl is) (inl e) =
        let next = next-at first.price rows is.0 in
        let at = rest next.0 next.1 in
        (at.0, subst (In (made at.0)) (sym is.1) at.1, at.2 ∙ next.2 ∙ ap (λ (one : Usable). one.price) (sym e))
    step rest (inl is) (inr later) = let at = rest row later in (at.0, subst (In (made at.0)) (sym is.1) at.1, at.2)
    step rest (inr is) (inl e) = (first, subst (In (made first)) (sym is.1) (inl refl), ap (λ (one : Usable). one.price) (sym e))
    step rest (inr is) (inr later) = let at = rest row later in (at.0, subst (In (made at.0)) (sym is.1) (inr at.1), at.2)

-- ---- the cuts

-- what the cut at a cutoff says, by the sums over the rows
abbrev pub kind_at : List Usable → List Usable → ℕ → ℤ → CutKind
kind_at rows by_cost most cutoff = kind_by by_cost most cutoff (swept cutoff rows) (pool cutoff rows)

-- the cut of a row, and one for each price
abbrev pub cut_at : (ℤ → CutKind) → Usable → Cut
cut_at kind row = record { price = row.price; kind = kind row.rank }

abbrev pub cuts_of : (ℤ → CutKind) → List Usable → List Cut
cuts_of kind rows = per_price (cut_at kind) rows

pub record IsCutOf (kind : ℤ → CutKind) (row : Usable) (cut : Cut) : Type 0 where
  pub price : cut.price ≡ row.price
  pub kind_is : cut.kind ≡ kind row.rank

pub row_of_cut : (kind : ℤ → CutKind) (rows : List Usable) (cut : Cut) → In cut (cuts_of kind rows)
    → (row : Usable) × In row rows × IsCutOf kind row cut
row_of_cut kind rows cut within =
    let at = made_of (cut_at kind) rows cut within in
    (at.0, at.1, record { price = ap (λ (one : Cut). one.price) at.2; kind_is = ap (λ (one : Cut). one.kind) at.2 })

pub cut_of_row : (kind : ℤ → CutKind) (rows : List Usable) (row : Usable) → In row rows
    → (cut : Cut) × In cut (cuts_of kind rows) × (cut.price ≡ row.price)
cut_of_row kind rows row within = let at = made_for (cut_at kind) rows row within in (cut_at kind at.0, at.1, at.2)

-- ---- best first

pub rank-same : (side : OrderSide) (price other : ℕ) → rank_of side price ≡ rank_of side other → price ≡ other
rank-same Buy price other e = omega (arith, ints, e)
rank-same Sell price other e = omega (arith, ints, e)

rank-less : (side : OrderSide) (price other : ℕ) → rank_of side price ≤ℤ rank_of side other → (price ≡ other → ⊥)
    → rank_of side price <ℤ rank_of side other
rank-less side price other most differs =
    by_lt_z (rank_of side price) (rank_of side other) (λ less. less)
    (λ least. absurd (differs (rank-same side price other (omega (arith, ints, most, least)))))

no_less-in : (row : Usable) (rows : List Usable) → NoLess Price row rows → (later : Usable) → In later rows → row.rank ≤ℤ later.rank
no_less-in row [] each later within = absurd within
no_less-in row (first ∷ rows) each later (inl e) = rw e each.0
no_less-in row (first ∷ rows) each later (inr within) = no_less-in row rows each.1 later within

-- a row is better than all later ones, if the next one has another price
pub beyond : (side : OrderSide) (row : Usable) (rows : List Usable) → row.rank ≡ rank_of side row.price
    → ((one : Usable) → In one rows → one.rank ≡ rank_of side one.price) → NoLess Price row rows → Ordered Price rows
    → starts_at row.price rows ≡ false → (later : Usable) → In later rows → rank_of side row.price <ℤ rank_of side later.price
beyond side row [] ranked each no_less ordered last later within = absurd within
beyond side row (next ∷ rows) ranked each no_less ordered last later within =
    let differs = eqb-false next.price row.price last in
    let less : rank_of side row.price <ℤ rank_of side next.price =
    rank-less side row.price next.price (omega (arith, ints, no_less.0, ranked, each next (inl refl))) (λ e. differs (sym e)) in
    step within (omega (arith, ints, less, each next (inl refl)))
  where
    step : (later ≡ next) ⊎ In later rows → rank_of side row.price <ℤ next.rank → rank_of side row.price <ℤ rank_of side later.price
    step (inl e) less = omega (arith, ints, less, ap (λ (one : Usable). one.rank) e, each later (inl e))
    step (inr more) less = omega (arith, ints, less, no_less-in next rows ordered.0 later more, each later (inr more))

pub best_first : {X : Type 0} (price_of : X → ℕ) (made : Usable → X) → ((row : Usable) → price_of (made row) ≡ row.price)
    → (side : OrderSide) (rows : List Usable)
    → ((row : Usable) → In row rows → row.rank ≡ rank_of side row.price) → Ordered Price rows
    → AllPairs (λ one later. is_better side (price_of one) (price_of later) ≡ true) (per_price made rows)
unfolding per_price
best_first price_of made at_price side [] ranked ordered = λ i j d less below. absurd (omega (arith, below))
best_first {X} price_of made at_price side (row ∷ rows) ranked ordered =
    step (best_first price_of made at_price side rows (λ one within. ranked one (inr within)) ordered.1) (per_cases made row rows)
  where
    step : AllPairs (λ (one later : X). is_better side (price_of one) (price_of later) ≡ true) (per_price made rows)
        → (starts_at row.price rows ≡ true) × (per_price made (row ∷ rows) ≡ per_price made rows) ⊎ (starts_at row.price rows ≡ false)
        × (per_price made (row ∷ rows) ≡ made row ∷ per_price made rows)
        → AllPairs (λ (one later : X). is_better side (price_of one) (price_of later) ≡ true) (per_price made (row ∷ rows))
    step rest (inl is) = subst (AllPairs (λ (one later : X). is_better side (price_of one) (price_of later) ≡ true)) (sym is.1) rest
    step rest (inr is) =
        subst (AllPairs (λ (one later : X). is_better side (price_of one) (price_of later) ≡ true)) (sym is.1)
        (AllPairs-cons (λ (one later : X). is_better side (price_of one) (price_of later) ≡ true) (made row) (per_price made rows)
        (All-In (λ (later : X). is_better side (price_of (made row)) (price_of later) ≡ true) (per_price made rows) (λ later within.
        let at = made_of made rows later within in
        let far = beyond side row rows (ranked row (inl refl)) (λ one more. ranked one (inr more)) ordered.0 ordered.1 is.0 at.0 at.1 in
        subst (λ price. is_better side price (price_of later) ≡ true) (sym (at_price row))
        (subst (λ price. is_better side row.price price ≡ true) (sym (ap price_of at.2 ∙ at_price at.0))
        (better-from-rank side row.price at.0.price far))))
        rest)
