-- Cuts that are walked with the usable rows, best price first, are right.
use Rattle.std.proofs.Common.{ℕ, ◌≡◌, ◌≢◌, ◌+◌, ◌==◌, ◌&&◌, ◌++◌, Bool, true, false, List, [], ◌∷◌, ◌⊎◌, inl, inr, Any, refl, ap, sym, ◌∙◌}
use Rattle.std.proofs.Common.{suc, subst, arith, append_assoc}
use Rattle.std.specs.Prelude.{ℤ, ◌<ℤ◌, ◌≤ℤ◌, AllPairs, not, if◌then◌else◌}
use Rattle.std.specs.Int.RustNames.{int_le, int_lt}
use Rattle.std.specs.List.{filter}
use Rattle.std.specs.List.Sorted.{IsPermutation}
use Rattle.std.proofs.lemmas.Bool.{and_from, and_parts, and_right, cases_Bool, eqb-false, eqb-true, false≢true, lt-leb, le-ltb}
use Rattle.std.proofs.lemmas.Bool.{leb-true, ltb-true, not_from_false}
use Rattle.std.proofs.lemmas.Int.{ints}
use Rattle.std.proofs.lemmas.List.Kept.{AllPairs-cons}
use Rattle.std.proofs.lemmas.List.Sorted.{All-permutation, IsPermutation-sym}
use Rattle.nms_quote.specs.Terms.{Terms}
use Rattle.nms_quote.specs.declared.certificate.Cut.{Cut}
use Rattle.nms_quote.specs.declared.certificate.CutKind.{CutKind}
use Rattle.nms_quote.specs.declared.certificate.CutKind.TheVariants.{TooMuch, TooLittle, Marginal}
use Rattle.nms_quote.specs.declared.order.OrderSide.{OrderSide}
use Rattle.nms_quote.specs.declared.order.OrderSide.TheVariants.{Buy, Sell}
use Rattle.nms_board.specs.View.{Seen}
use Rattle.nms_fee_book.specs.Fees.{Charges}
use Rattle.nms_rules.specs.Assignment.{fillable, total}
use Rattle.nms_rules.specs.Cutoff.{KindHolds, is_swept, pool, pool_part, savings_part, swept, swept_cost_part, swept_part}
use Rattle.nms_rules.specs.Usable.{Usable, contra_rows, is_better, is_usable, rank_of, usable, usable_row}
use Rattle.nms_cert.specs.Doubts.{fails_bound, is_out_of_range, is_wrong_kind}
use Rattle.nms_cert.specs.Walk.{are_walked, behind, is_bounded, is_done, is_right_kind, none_passed, past, protected_size, starts_at, with_row}
use Rattle.nms_cert.specs.declared.walking.Passed.{Passed}
use Rattle.nms_cert.proofs.AcceptedLemmas.{AreRight, kind_holds}
use Rattle.nms_rules.proofs.Offered.{All-In, Any-In, In, In-All, amount_same, better-from-rank, false-lt, le-false, le-true, map-In, pool-is}
use Rattle.nms_rules.proofs.Offered.{pool-not, swept-not, total_append, total_same, true-lt}

-- ---- members

in_left : {X : Type 0} (x : X) (xs ys : List X) → In x xs → In x (xs ++ ys)
in_left x [] ys within = absurd within
in_left x (y ∷ xs) ys (inl same) = inl same
in_left x (y ∷ xs) ys (inr within) = inr (in_left x xs ys within)

in_right : {X : Type 0} (x : X) (xs ys : List X) → In x ys → In x (xs ++ ys)
in_right x [] ys within = within
in_right x (y ∷ xs) ys within = inr (in_right x xs ys within)

in_either : {X : Type 0} (x : X) (xs ys : List X) → In x (xs ++ ys) → In x xs ⊎ In x ys
in_either x [] ys within = inr within
in_either x (y ∷ xs) ys (inl same) = inl (inl same)
in_either x (y ∷ xs) ys (inr within) = by (in_either x xs ys within)
  where
    by : In x xs ⊎ In x ys → In x (y ∷ xs) ⊎ In x ys
    by (inl left) = inl (inr left)
    by (inr right) = inr right

-- a list's members are those of a permutation
pub in_permutation : {X : Type 0} (xs ys : List X) (x : X) → IsPermutation xs ys → In x ys → In x xs
in_permutation xs ys x same within =
    In-All (λ y. In y xs) ys (All-permutation (λ y. In y xs) xs ys same (All-In (λ y. In y xs) xs (λ y among. among))) x within

-- ---- rows in the order of their prices

-- none is at a better price than one before it
abbrev pub Falls : List Usable → Type 0
Falls [] = Unit
Falls (row ∷ rows) = ((other : Usable) → In other rows → row.rank ≤ℤ other.rank) × Falls rows

pub falls : (rows : List Usable) → AllPairs (λ row later. row.rank ≤ℤ later.rank) rows → Falls rows
falls [] pairs = tt
falls (row ∷ rows) pairs = (
  In-All (λ (other : Usable). row.rank ≤ℤ other.rank) rows (λ k d below. pairs 0 (suc k) d (omega arith) (omega arith)),
  falls rows (λ i j d less below. pairs (suc i) (suc j) d (omega arith) (omega arith)),
)

-- the rows at the price ahead of any other
level : ℕ → List Usable → List Usable
level price [] = []
level price (row ∷ rows) = if row.price == price then row ∷ level price rows else []

level_behind : (price : ℕ) (rows : List Usable) → level price rows ++ behind price rows ≡ rows
unfolding level behind
level_behind price [] = refl
level_behind price (row ∷ rows) =
    elim (cases_Bool (row.price == price)) [
      | inl e ↦ rw e (ap (λ (more : List Usable). row ∷ more) (level_behind price rows))
      | inr e ↦ rw e refl
    ]

past_shown : (price : ℕ) (passed : Passed) (rows : List Usable)
    → (past price passed rows).shown ≡ passed.shown + total (λ row. row.size) (level price rows)
unfolding level past total
past_shown price passed [] = omega arith
past_shown price passed (row ∷ rows) =
    elim (cases_Bool (row.price == price)) [
      | inl e ↦ rw e (omega (arith, past_shown price (with_row passed row) rows))
      | inr e ↦ rw e (omega arith)
    ]

past_swept : (price : ℕ) (passed : Passed) (rows : List Usable)
    → (past price passed rows).swept ≡ passed.swept + total protected_size (level price rows)
unfolding level past total
past_swept price passed [] = omega arith
past_swept price passed (row ∷ rows) =
    elim (cases_Bool (row.price == price)) [
      | inl e ↦ rw e (omega (arith, past_swept price (with_row passed row) rows))
      | inr e ↦ rw e (omega arith)
    ]

level_price : (price : ℕ) (rows : List Usable) (row : Usable) → In row (level price rows) → row.price ≡ price
unfolding level
level_price price [] row within = absurd within
level_price price (first ∷ rows) row within = by (first.price == price) refl within (level_price price rows row)
  where
    by : (same : Bool) → (first.price == price) ≡ same → In row (if same then first ∷ level price rows else [])
        → (In row (level price rows) → row.price ≡ price) → row.price ≡ price
    by true e (inl is) later = ap (λ (one : Usable). one.price) is ∙ eqb-true first.price price e
    by true e (inr among) later = later among
    by false e among later = absurd among

behind_within : (price : ℕ) (rows : List Usable) (row : Usable) → In row (behind price rows) → In row rows
behind_within price rows row within =
    subst (In row) (level_behind price rows) (in_right row (level price rows) (behind price rows) within)

falls_behind : (price : ℕ) (rows : List Usable) → Falls rows → Falls (behind price rows)
unfolding behind
falls_behind price [] fall = tt
falls_behind price (row ∷ rows) fall =
    elim (cases_Bool (row.price == price)) [ inl e ↦ rw e (falls_behind price rows fall.1) | inr e ↦ rw e fall ]

-- ---- ranks

abbrev pub AreRanked : OrderSide → List Usable → Type 0
AreRanked side rows = (row : Usable) → In row rows → row.rank ≡ rank_of side row.price

other_rank : (side : OrderSide) (price other : ℕ) → price ≢ other → rank_of side price ≤ℤ rank_of side other
    → rank_of side price <ℤ rank_of side other
other_rank Buy price other differ low = omega (arith, ints)
other_rank Sell price other differ low = omega (arith, ints)

-- what is after a price is at worse prices
beyond : (side : OrderSide) (price : ℕ) (rows : List Usable) → AreRanked side rows → Falls rows
    → ((row : Usable) → In row rows → rank_of side price ≤ℤ row.rank) → (row : Usable) → In row (behind price rows)
    → rank_of side price <ℤ row.rank
unfolding behind
beyond side price [] ranked fall low row within = absurd within
beyond side price (first ∷ rows) ranked fall low row within =
    by (first.price == price) refl within
    (beyond side price rows (λ one among. ranked one (inr among)) fall.1 (λ one among. low one (inr among)) row)
  where
    worse : (first.price == price) ≡ false → rank_of side price <ℤ first.rank
    worse e =
        let is = ranked first (inl refl) in
        rw is (other_rank side price first.price (λ same. eqb-false first.price price e (sym same))
        (subst (λ r. rank_of side price ≤ℤ r) is (low first (inl refl))))

    by : (same : Bool) → (first.price == price) ≡ same → In row (if same then behind price rows else first ∷ rows)
        → (In row (behind price rows) → rank_of side price <ℤ row.rank) → rank_of side price <ℤ row.rank
    by true e among later = later among
    by false e (inl is) later = subst (λ (one : Usable). rank_of side price <ℤ one.rank) (sym is) (worse e)
    by false e (inr among) later = omega (arith, ints, worse e, fall.0 row among)

-- ---- the sums at a cutoff

total_alike : (one other : Usable → ℕ) (rows : List Usable) → ((row : Usable) → In row rows → one row ≡ other row)
    → total one rows ≡ total other rows
unfolding total
total_alike one other [] each = refl
total_alike one other (row ∷ rows) each =
    omega (arith, each row (inl refl), total_alike one other rows (λ x among. each x (inr among)))

total_nothing : (rows : List Usable) → total (λ row. 0) rows ≡ 0
unfolding total
total_nothing [] = refl
total_nothing (row ∷ rows) = omega (arith, total_nothing rows)

total_both : (one other : Usable → ℕ) (rows : List Usable) → total (λ row. one row + other row) rows ≡ total one rows + total other rows
unfolding total
total_both one other [] = refl
total_both one other (row ∷ rows) = omega (arith, total_both one other rows)

true-le : (a b : ℤ) → a ≤ℤ b → int_le a b ≡ true
true-le a b low =
    elim (cases_Bool (int_le a b)) [ inl e ↦ e | inr e ↦ absurd (omega (arith, ints, le-false a b e)) ]

not-le : (a b : ℤ) → b <ℤ a → int_le a b ≡ false
not-le a b less = elim (cases_Bool (int_le a b)) [ inl e ↦ absurd (omega (arith, ints, le-true a b e)) | inr e ↦ e ]

-- a row at a better price
swept_better : (cutoff : ℤ) (row : Usable) → row.rank <ℤ cutoff → swept_part cutoff row ≡ protected_size row
swept_better cutoff row less = rw (true-lt row.rank cutoff less) (by row.protected)
  where
    by : (protected : Bool) → (if protected && true then row.size else 0) ≡ (if protected then row.size else 0)
    by true = refl
    by false = refl

both_better : (cutoff : ℤ) (row : Usable) → row.rank <ℤ cutoff → swept_part cutoff row + pool_part cutoff row ≡ row.size
both_better cutoff row less =
    rw (true-lt row.rank cutoff less, true-le row.rank cutoff (omega (arith, ints))) (by row.protected)
  where
    by : (protected : Bool)
        → (if protected && true then row.size else 0) + (if true && not (protected && true) then row.size else 0) ≡ row.size
    by true = omega arith
    by false = omega arith

-- a row at the price
swept_here : (cutoff : ℤ) (row : Usable) → row.rank ≡ cutoff → is_swept cutoff row ≡ false
swept_here cutoff row is = and_right row.protected (int_lt row.rank cutoff) (false-lt row.rank cutoff (omega (arith, ints)))

both_here : (cutoff : ℤ) (row : Usable) → row.rank ≡ cutoff → swept_part cutoff row + pool_part cutoff row ≡ row.size
both_here cutoff row is =
    let none = swept_here cutoff row is in
    omega (
      arith,
      swept-not cutoff row none,
      pool-is cutoff row (and_from (int_le row.rank cutoff) (not (is_swept cutoff row))
          (true-le row.rank cutoff (omega (arith, ints))) (not_from_false (is_swept cutoff row) none)),
    )

-- a row at a worse price
swept_worse : (cutoff : ℤ) (row : Usable) → cutoff <ℤ row.rank → is_swept cutoff row ≡ false
swept_worse cutoff row less = and_right row.protected (int_lt row.rank cutoff) (false-lt row.rank cutoff (omega (arith, ints)))

both_worse : (cutoff : ℤ) (row : Usable) → cutoff <ℤ row.rank → swept_part cutoff row + pool_part cutoff row ≡ 0
both_worse cutoff row less =
    omega (
      arith,
      swept-not cutoff row (swept_worse cutoff row less),
      pool-not cutoff row (rw (not-le row.rank cutoff less) refl),
    )

-- rows before a cutoff, at it, and after it
record IsCut (cutoff : ℤ) (before here later : List Usable) : Type 0 where
  pub better : (row : Usable) → In row before → row.rank <ℤ cutoff
  pub same : (row : Usable) → In row here → row.rank ≡ cutoff
  pub worse : (row : Usable) → In row later → cutoff <ℤ row.rank

swept_is : (cutoff : ℤ) (before here later : List Usable) → IsCut cutoff before here later
    → swept cutoff (before ++ (here ++ later)) ≡ total protected_size before
swept_is cutoff before here later cut =
    omega (
      arith,
      total_append (swept_part cutoff) before (here ++ later),
      total_append (swept_part cutoff) here later,
      total_alike (swept_part cutoff) protected_size before (λ row among. swept_better cutoff row (cut.better row among)),
      total_alike (swept_part cutoff) (λ row. 0) here (λ row among. swept-not cutoff row (swept_here cutoff row (cut.same row among))),
      total_alike (swept_part cutoff) (λ row. 0) later (λ row among. swept-not cutoff row (swept_worse cutoff row (cut.worse row among))),
      total_nothing here,
      total_nothing later,
    )

shown_is : (cutoff : ℤ) (before here later : List Usable) → IsCut cutoff before here later
    → swept cutoff (before ++ (here ++ later)) + pool cutoff (before ++ (here ++ later))
    ≡ total (λ row. row.size) before + total (λ row. row.size) here
shown_is cutoff before here later cut =
    let both : Usable → ℕ = λ row. swept_part cutoff row + pool_part cutoff row in
    omega (
      arith,
      total_both (swept_part cutoff) (pool_part cutoff) (before ++ (here ++ later)),
      total_append both before (here ++ later),
      total_append both here later,
      total_alike both (λ row. row.size) before (λ row among. both_better cutoff row (cut.better row among)),
      total_alike both (λ row. row.size) here (λ row among. both_here cutoff row (cut.same row among)),
      total_alike both (λ row. 0) later (λ row among. both_worse cutoff row (cut.worse row among)),
      total_nothing later,
    )

-- ---- one cut

right_kind : (rows : List Usable) (most : ℕ) (cutoff : ℤ) (kind : CutKind) (must shown : ℕ) → swept cutoff rows ≡ must
    → swept cutoff rows + pool cutoff rows ≡ shown → is_right_kind most kind must shown ≡ true → is_wrong_kind rows most cutoff kind ≡ false
right_kind rows most cutoff TooMuch must shown swept_is all_is right =
    lt-leb (swept cutoff rows) most (omega (arith, swept_is, ltb-true most must right))
right_kind rows most cutoff TooLittle must shown swept_is all_is right =
    lt-leb most (swept cutoff rows + pool cutoff rows) (omega (arith, all_is, ltb-true shown most right))
right_kind rows most cutoff (Marginal marginal) must shown swept_is all_is right =
    le-ltb most (swept cutoff rows) (omega (arith, swept_is, leb-true must most right))

not-true : (b : Bool) → not b ≡ true → b ≡ false
not-true true e = sym e
not-true false e = refl

-- ---- all cuts

-- the rows are those passed and those to come, which are at worse prices
record IsSplit (rows before later : List Usable) (passed : Passed) : Type 0 where
  pub whole : before ++ later ≡ rows
  pub shown : passed.shown ≡ total (λ row. row.size) before
  pub swept : passed.swept ≡ total protected_size before
  pub apart : (row other : Usable) → In row before → In other later → row.rank <ℤ other.rank

-- the cuts to come are right for the rows to come
pub record IsRight (side : OrderSide) (rows : List Usable) (most : ℕ) (cost : ℤ) (later : List Usable) (cuts : List Cut) : Type 0 where
  pub each : (row : Usable) → In row later → (cut : Cut) × In cut cuts × (cut.price ≡ row.price)
  pub other : (cut : Cut) → In cut cuts → (row : Usable) × In row later × (row.price ≡ cut.price)
  pub best_first : AllPairs (λ cut next. is_better side cut.price next.price ≡ true) cuts
  pub holds : (cut : Cut) → In cut cuts → KindHolds rows most cost (rank_of side cut.price) cut.kind

done_right : (side : OrderSide) (rows : List Usable) (most : ℕ) (cost : ℤ) (later : List Usable) → is_done later ≡ true
    → IsRight side rows most cost later []
done_right side rows most cost [] done = record {
  each = λ row within. absurd within;
  other = λ cut within. absurd within;
  best_first = λ i j d less below. absurd (omega (arith, below));
  holds = λ cut within. absurd within;
}
done_right side rows most cost (row ∷ later) done = absurd (false≢true done)

-- what a cut says of the first row to come
record IsNext (side : OrderSide) (price : ℕ) (later : List Usable) : Type 0 where
  pub first : Usable
  pub within : In first later
  pub at : first.price ≡ price
  pub low : (row : Usable) → In row later → rank_of side price ≤ℤ row.rank

next_of : (side : OrderSide) (price : ℕ) (later : List Usable) → AreRanked side later → Falls later → starts_at price later ≡ true
    → IsNext side price later
next_of side price [] ranked fall starts = absurd (false≢true starts)
next_of side price (first ∷ later) ranked fall starts =
    let same : first.price ≡ price = eqb-true first.price price starts in
    let rank : first.rank ≡ rank_of side price = ranked first (inl refl) ∙ ap (rank_of side) same in
    record { first = first; within = inl refl; at = same; low = low rank }
  where
    low : first.rank ≡ rank_of side price → (row : Usable) → In row (first ∷ later) → rank_of side price ≤ℤ row.rank
    low rank row (inl is) = omega (arith, ints, rank, ap (λ (one : Usable). one.rank) is)
    low rank row (inr among) = omega (arith, ints, rank, fall.0 row among)

-- the rows at the cut's price and those after it
cut_of : (side : OrderSide) (price : ℕ) (rows before later : List Usable) (passed : Passed) → IsSplit rows before later passed
    → AreRanked side later → Falls later → IsNext side price later
    → IsCut (rank_of side price) before (level price later) (behind price later)
cut_of side price rows before later passed split ranked fall next = record {
  better = λ row among.
      let less = split.apart row next.first among next.within in
      omega (arith, ints, less, ranked next.first next.within ∙ ap (rank_of side) next.at);
  same = λ row among.
      ranked row (subst (In row) (level_behind price later) (in_left row (level price later) (behind price later) among))
      ∙ ap (rank_of side) (level_price price later row among);
  worse = beyond side price later ranked fall next.low;
}

split_more : (price : ℕ) (cutoff : ℤ) (rows before later : List Usable) (passed : Passed) → IsSplit rows before later passed
    → IsCut cutoff before (level price later) (behind price later)
    → IsSplit rows (before ++ level price later) (behind price later) (past price passed later)
split_more price cutoff rows before later passed split cut = record {
  whole = append_assoc before (level price later) (behind price later) ∙ ap (λ more. before ++ more) (level_behind price later) ∙ split.whole;
  shown = omega (
    arith,
    past_shown price passed later,
    split.shown,
    total_append (λ row. row.size) before (level price later),
  );
  swept = omega (arith, past_swept price passed later, split.swept, total_append protected_size before (level price later));
  apart = λ row other among there. apart row other (in_either row before (level price later) among) (cut.worse other there);
}
  where
    apart : (row other : Usable) → In row before ⊎ In row (level price later) → cutoff <ℤ other.rank → row.rank <ℤ other.rank
    apart row other (inl among) worse = omega (arith, ints, cut.better row among, worse)
    apart row other (inr among) worse = omega (arith, ints, cut.same row among, worse)

-- one more cut is right
more_right : (side : OrderSide) (rows : List Usable) (most : ℕ) (cost : ℤ) (later : List Usable) (cut : Cut) (cuts : List Cut)
    → IsNext side cut.price later → ((row : Usable) → In row (behind cut.price later) → rank_of side cut.price <ℤ row.rank)
    → AreRanked side later → KindHolds rows most cost (rank_of side cut.price) cut.kind
    → IsRight side rows most cost (behind cut.price later) cuts → IsRight side rows most cost later (cut ∷ cuts)
more_right side rows most cost later cut cuts next worse ranked kind right = record {
  each = λ row among. each row (in_either row (level cut.price later) (behind cut.price later)
      (subst (In row) (sym (level_behind cut.price later)) among));
  other = other;
  best_first = AllPairs-cons (λ (one : Cut) (more : Cut). is_better side one.price more.price ≡ true) cut cuts
      (All-In (λ (one : Cut). is_better side cut.price one.price ≡ true) cuts better) right.best_first;
  holds = holds;
}
  where
    each : (row : Usable) → In row (level cut.price later) ⊎ In row (behind cut.price later)
        → (one : Cut) × In one (cut ∷ cuts) × (one.price ≡ row.price)
    each row (inl among) = (cut, inl refl, sym (level_price cut.price later row among))
    each row (inr among) = let one = right.each row among in (one.0, inr one.1, one.2)

    other : (one : Cut) → In one (cut ∷ cuts) → (row : Usable) × In row later × (row.price ≡ one.price)
    other one (inl is) = (next.first, next.within, next.at ∙ ap (λ (c : Cut). c.price) (sym is))
    other one (inr among) = let row = right.other one among in (row.0, behind_within cut.price later row.0 row.1, row.2)

    better : (one : Cut) → In one cuts → is_better side cut.price one.price ≡ true
    better one among =
        let row = right.other one among in
        better-from-rank side cut.price one.price
        (subst (λ r. rank_of side cut.price <ℤ r) (ranked row.0 (behind_within cut.price later row.0 row.1) ∙ ap (rank_of side) row.2)
        (worse row.0 row.1))

    holds : (one : Cut) → In one (cut ∷ cuts) → KindHolds rows most cost (rank_of side one.price) one.kind
    holds one (inl is) = subst (λ (c : Cut). KindHolds rows most cost (rank_of side c.price) c.kind) (sym is) kind
    holds one (inr among) = right.holds one among

walked : (side : OrderSide) (rows : List Usable) (most : ℕ) (cost : ℤ) (before later : List Usable) (passed : Passed) (cuts : List Cut)
    → IsSplit rows before later passed → AreRanked side later → Falls later → are_walked side rows most cost passed later cuts ≡ true
    → IsRight side rows most cost later cuts
unfolding are_walked
walked side rows most cost before later passed [] split ranked fall e = done_right side rows most cost later e
walked side rows most cost before later passed (cut ∷ cuts) split ranked fall e =
    let price = cut.price in
    let cutoff : ℤ = rank_of side price in
    let next_passed : Passed = past price passed later in
    let kind = is_right_kind most cut.kind passed.swept next_passed.shown in
    let bounded = is_bounded rows most cost cutoff cut.kind in
    let rest = are_walked side rows most cost next_passed (behind price later) cuts in
    let a = and_parts (starts_at price later && kind && bounded) rest e in
    let b = and_parts (starts_at price later && kind) bounded a.0 in
    let c = and_parts (starts_at price later) kind b.0 in
    let bounds = and_parts (not (is_out_of_range cut.kind)) (not (fails_bound rows most cost cutoff cut.kind)) b.1 in
    let next = next_of side price later ranked fall c.0 in
    let at = cut_of side price rows before later passed split ranked fall next in
    let parts : before ++ (level price later ++ behind price later) ≡ rows =
    ap (λ more. before ++ more) (level_behind price later) ∙ split.whole in
    let must : swept cutoff rows ≡ passed.swept =
    subst (λ (all : List Usable). swept cutoff all ≡ passed.swept) parts
    (swept_is cutoff before (level price later) (behind price later) at ∙ sym split.swept) in
    let shown : swept cutoff rows + pool cutoff rows ≡ next_passed.shown =
    subst (λ (all : List Usable). swept cutoff all + pool cutoff all ≡ next_passed.shown) parts
    (shown_is cutoff before (level price later) (behind price later) at
    ∙ omega (arith, past_shown price passed later, split.shown)) in
    more_right side rows most cost later cut cuts next at.worse ranked
    (kind_holds rows most cost cutoff cut.kind (right_kind rows most cutoff cut.kind passed.swept next_passed.shown must shown c.1)
    (not-true (is_out_of_range cut.kind) bounds.0) (not-true (fails_bound rows most cost cutoff cut.kind) bounds.1))
    (walked side rows most cost (before ++ level price later) (behind price later) next_passed cuts
    (split_more price cutoff rows before later passed split at) (λ row among. ranked row (behind_within price later row among))
    (falls_behind price later fall) a.1)

-- ---- in another order of the rows

kind_same : (one other : List Usable) → IsPermutation one other → (most : ℕ) (cost cutoff : ℤ) (kind : CutKind)
    → KindHolds other most cost cutoff kind → KindHolds one most cost cutoff kind
kind_same one other same most cost cutoff TooMuch holds = omega (arith, total_same (swept_part cutoff) one other same, holds)
kind_same one other same most cost cutoff TooLittle holds =
    omega (arith, total_same (swept_part cutoff) one other same, total_same (pool_part cutoff) one other same, holds)
kind_same one other same most cost cutoff (Marginal marginal) holds =
    let must = total_same (swept_part cutoff) one other same in
    record {
      enough = omega (arith, must, holds.enough);
      low = holds.low;
      high = holds.high;
      bound = rw (
        sym must,
        sym (amount_same (swept_cost_part cutoff) one other same),
        sym (amount_same (savings_part cutoff marginal) one other same),
      ) holds.bound;
    }

pub fillable_same : (one other : List Usable) → IsPermutation one other → (asked : ℕ) → fillable other asked ≡ fillable one asked
fillable_same one other same asked = rw (total_same (λ row. row.size) one other same) refl

-- each usable row has the rank of its price
pub usable_ranked : (seen : Seen) (order : Terms) (fees : Charges) → AreRanked order.side (usable seen order fees)
usable_ranked seen order fees row among =
    let of = map-In (usable_row order fees) (filter (is_usable order) (contra_rows order.side seen)) row among in
    ap (λ (one : Usable). one.rank) of.2 ∙ sym (ap (λ (one : Usable). rank_of order.side one.price) of.2)

-- cuts that are walked with rows, best price first, are right for these rows in any order
pub walked_right : (side : OrderSide) (one rows : List Usable) (most : ℕ) (cost : ℤ) (cuts : List Cut) → IsPermutation one rows
    → AreRanked side one → AllPairs (λ row later. row.rank ≤ℤ later.rank) rows
    → are_walked side rows most cost none_passed rows cuts ≡ true → AreRight side one most cost cuts
unfolding total
walked_right side one rows most cost cuts same ranked ordered e =
    let right = walked side rows most cost [] rows none_passed cuts
    (record { whole = refl; shown = refl; swept = refl; apart = λ row other among there. absurd among })
    (λ row among. ranked row (in_permutation one rows row same among)) (falls rows ordered) e in
    record {
      each_price = All-In (λ row. Any (λ cut. cut.price ≡ row.price) cuts) one (λ row among.
          let cut = right.each row (in_permutation rows one row (IsPermutation-sym one rows same) among) in
          Any-In (λ (c : Cut). c.price ≡ row.price) cuts cut.0 cut.1 cut.2);
      no_other = All-In (λ cut. Any (λ row. row.price ≡ cut.price) one) cuts (λ cut among.
          let row = right.other cut among in
          Any-In (λ (r : Usable). r.price ≡ cut.price) one row.0 (in_permutation one rows row.0 same row.1) row.2);
      best_first = right.best_first;
      holds = All-In (λ cut. KindHolds one most cost (rank_of side cut.price) cut.kind) cuts (λ cut among.
          kind_same one rows same most cost (rank_of side cut.price) cut.kind (right.holds cut among));
    }
