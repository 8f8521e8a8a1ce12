-- Each answer of a live run is the best of its version.
use Rattle.std.proofs.Common.{ℕ, zero, suc, ◌≡◌, ◌≢◌, ◌≤◌, ◌<◌, ◌+◌, ◌⊎◌, List, [], ◌∷◌, ◌++◌, Option, Some, None, refl, sym, ap, subst}
use Rattle.std.proofs.Common.{◌∙◌, inl, inr, arith}
use Rattle.std.specs.Prelude.{AllPairs, ◌↔◌}
use Rattle.std.specs.List.{Contains, cons_option, filter_map, range_with_len}
use Rattle.std.proofs.lemmas.List.Elements.{All-append, All-from_recursion, All-weaker, Contains-append_cases, Contains-append_left}
use Rattle.std.proofs.lemmas.List.Elements.{Contains-append_right, Contains-push, Contains-push_cases, recursion_from_All}
use Rattle.std.proofs.lemmas.List.Kept.{AllPairs-cons}
use Rattle.nms_quote.specs.Roster.{Sizes, sizes_of}
use Rattle.nms_quote.specs.Tape.{Tape, version}
use Rattle.nms_quote.specs.declared.side_quote.Side.{Side}
use Rattle.nms_quote.specs.declared.side_quote.Side.TheVariants.{Bid, Offer}
use Rattle.nms_board.specs.Quotation.{quotation_of, quotations}
use Rattle.nms_board.specs.View.{AreRows, rows_on}
use Rattle.nms_board.specs.declared.row.Row.{Row}
use Rattle.nms_fees.specs.Settings.{Settings}
use Rattle.nms_nbbo.specs.Best.{IsBest, IsBestOf}
use Rattle.nms_rules.specs.Laws.{LawfulPlansNeverTradeThrough}
use Rattle.nms_rules.proofs.Offered.{none_of_faultless}
use Rattle.nms_live.specs.Answering.{IsSound, of_desk, versions}
use Rattle.nms_live.specs.Headline.{AreBestOfTheirVersions, HasOneBest, IsBestOfItsVersion, IsQuotation}
use Rattle.nms_live.specs.Lists.{IsRising}
use Rattle.nms_live.specs.Living.{IsLive}
use Rattle.nms_live.specs.RunOf.{basis_of}
use Rattle.nms_quote.specs.declared.answer.Answer.{Answer}
use Rattle.nms_quote.specs.declared.desk_order.DeskOrder.{DeskOrder}
use Rattle.nms_live.specs.declared.live.Live.{Live}

-- the laws of the ranking, of quotations and of plans, as they are called
pub record AreLaws : Type 0 where
  pub once : (sizes : Sizes) (tape : Tape) (symbol : ℕ) (side : Side) (row other : Row)
      → IsBest side (quotations sizes tape symbol side) row → IsBest side (quotations sizes tape symbol side) other → row ≡ other
  pub some : (side : Side) (rows : List Row) → rows ≢ [] → (row : Row) × IsBest side rows row
  pub none : (side : Side) (row : Row) → ¬ IsBest side [] row
  pub rows : (sizes : Sizes) (tape : Tape) (symbol : ℕ) (side : Side) → AreRows (quotations sizes tape symbol side)
  pub through : LawfulPlansNeverTradeThrough

-- one row is best, or none
one_best : (side : Side) (rows : List Row) → (rows ≢ [] → (row : Row) × IsBest side rows row) → ((row : Row) → ¬ IsBest side [] row)
    → ((row other : Row) → IsBest side rows row → IsBest side rows other → row ≡ other) → HasOneBest side rows
one_best side [] some none once = (None, refl, λ other is. by_other other is)
  where
    by_other : (other : Option Row) → IsBestOf side [] other → other ≡ None
    by_other None is = refl
    by_other (Some row) is = absurd (none row is)
one_best side (row ∷ rows) some none once =
    let best = some (λ e. cc) in
    (Some best.0, best.1, λ other is. by_other best.0 best.1 other is)
  where
    by_other : (best : Row) → IsBest side (row ∷ rows) best → (other : Option Row) → IsBestOf side (row ∷ rows) other → other ≡ Some best
    by_other best top None is = absurd (cc)
    by_other best top (Some other) is = ap (λ (r : Row). Some r) (once other best is top)

-- some place of those from the first on answers this
abbrev IsAnswered : (ℕ → Option Row) → ℕ → ℕ → Row → Type 0
IsAnswered f low n row = (k : ℕ) × (low ≤ k) × (k < low + n) × (f k ≡ Some row)

one_alone : (row other : Row) → Contains (row ∷ []) other → row ≡ other
one_alone row other among = elim (Contains-push_cases [] row other among) as (λ (h : Contains [] other ⊎ (row ≡ other)). row ≡ other) [
  | inl nowhere ↦ absurd (omega (arith, nowhere.1))
  | inr here ↦ here
]

later_answered : (f : ℕ → Option Row) (low n : ℕ) (row : Row) → IsAnswered f (low + 1) n row → IsAnswered f low (suc n) row
later_answered f low n row later = (later.0, omega (arith, later.1), omega (arith, later.2), later.3)

first_or_later : (f : ℕ → Option Row) (low n : ℕ) (row : Row) (first : Option Row) → f low ≡ first
    → (Contains (filter_map f (range_with_len (low + 1) n)) row → IsAnswered f (low + 1) n row)
    → Contains (cons_option first (filter_map f (range_with_len (low + 1) n))) row → IsAnswered f low (suc n) row
first_or_later f low n row None is rest found = later_answered f low n row (rest found)
first_or_later f low n row (Some other) is rest found =
    elim (Contains-append_cases (other ∷ []) (filter_map f (range_with_len (low + 1) n)) row found)
    as (λ (h : Contains (other ∷ []) row ⊎ Contains (filter_map f (range_with_len (low + 1) n)) row). IsAnswered f low (suc n) row) [
      | inl here ↦ (low, omega arith, omega arith, is ∙ ap (λ (r : Row). Some r) (one_alone other row here))
      | inr later ↦ later_answered f low n row (rest later)
    ]

-- each row among the answers of the places is answered by some place
answered_somewhere : (f : ℕ → Option Row) (low n : ℕ) (row : Row) → Contains (filter_map f (range_with_len low n)) row
    → IsAnswered f low n row
answered_somewhere f low zero row among = absurd (omega (arith, among.1))
answered_somewhere f low (suc n) row among = first_or_later f low n row (f low) refl (answered_somewhere f (low + 1) n row) among

at_or_above : (low k : ℕ) → low ≤ k → (low ≡ k) ⊎ (low + 1 ≤ k)
at_or_above zero zero le = inl refl
at_or_above zero (suc k) le = inr (omega arith)
at_or_above (suc low) zero le = absurd (omega (arith, le))
at_or_above (suc low) (suc k) le = elim (at_or_above low k (omega (arith, le))) as (λ (h : (low ≡ k) ⊎ (low + 1 ≤ k)). (suc low ≡ suc k)
    ⊎ (suc low + 1 ≤ suc k)) [
      | inl same ↦ inl (ap (λ (m : ℕ). suc m) same)
      | inr above ↦ inr (omega (arith, above))
    ]

-- what a place answers is among the answers
all_answered : (f : ℕ → Option Row) (low n k : ℕ) (row : Row) → low ≤ k → k < low + n → f k ≡ Some row
    → Contains (filter_map f (range_with_len low n)) row
all_answered f low zero k row above below is = absurd (omega (arith, above, below))
all_answered f low (suc n) k row above below is =
    elim (at_or_above low k above) as (λ (h : (low ≡ k) ⊎ (low + 1 ≤ k)). Contains (filter_map f (range_with_len low (suc n))) row) [
      | inl same ↦ here (f low) (ap f same ∙ is)
      | inr later ↦ behind (f low) (all_answered f (low + 1) n k row later (omega (arith, below)) is)
    ]
  where
    here : (first : Option Row) → first ≡ Some row → Contains (cons_option first (filter_map f (range_with_len (low + 1) n))) row
    here None is_first = absurd (cc)
    here (Some other) is_first =
        subst (λ (o : Option Row). Contains (cons_option o (filter_map f (range_with_len (low + 1) n))) row) (sym is_first)
        (Contains-append_left (row ∷ []) (filter_map f (range_with_len (low + 1) n)) row (Contains-push [] row))

    behind : (first : Option Row) → Contains (filter_map f (range_with_len (low + 1) n)) row
        → Contains (cons_option first (filter_map f (range_with_len (low + 1) n))) row
    behind None among = among
    behind (Some other) among = Contains-append_right (other ∷ []) (filter_map f (range_with_len (low + 1) n)) row among

-- the quotations of a side are what the participants quote there
each_quoted : (settings : Settings) (tape : Tape) (sym : ℕ) (side : Side) (row : Row)
    → Contains (quotations (sizes_of settings.roster) tape sym side) row ↔ IsQuotation settings tape sym side row
each_quoted settings tape symbol side row =
    let f : ℕ → Option Row = quotation_of (sizes_of settings.roster) tape symbol side in
    let parts : ℕ = (sizes_of settings.roster).parts in (
      λ among. let at = answered_somewhere f 0 parts row among in (at.0, omega (arith, at.2), at.3),
      λ quoted. all_answered f 0 parts quoted.0 row (omega arith) (omega (arith, quoted.1)) quoted.2,
    )

-- the rows that an answer was made on
quoted_on : (settings : Settings) (live : Live) (answer : Answer) (side : Side) (row : Row)
    → Contains (rows_on side (basis_of settings live answer)) row
    ↔ IsQuotation settings (version answer.plan.version live.tape.items) answer.plan.order.sym side row
quoted_on settings live answer Bid row = each_quoted settings (version answer.plan.version live.tape.items) answer.plan.order.sym Bid row
quoted_on settings live answer Offer row =
    each_quoted settings (version answer.plan.version live.tape.items) answer.plan.order.sym Offer row

best_of_version : (settings : Settings) (live : Live) → AreLaws → (answer : Answer)
    → IsSound settings live.tape.items live.published.items answer → IsBestOfItsVersion settings live answer
best_of_version settings live laws answer sound =
    let tape : Tape = version answer.plan.version live.tape.items in
    let sizes : Sizes = sizes_of settings.roster in
    let symbol : ℕ = answer.plan.order.sym in
    let one : (side : Side) → HasOneBest side (quotations sizes tape symbol side) =
    λ side. one_best side (quotations sizes tape symbol side) (laws.some side (quotations sizes tape symbol side)) (laws.none side)
    (laws.once sizes tape symbol side) in
    let faultless = sound.best.accepted.faultless in
    let by_side : (side : Side) (row : Row) → Contains (rows_on side (basis_of settings live answer)) row
    ↔ IsQuotation settings tape symbol side row = quoted_on settings live answer in
    record {
      version_is = record { published = sound.published_it; first_changes = sym faultless.version };
      rows = by_side;
      bid = one Bid;
      offer = one Offer;
      plan_is = record {
        of_version = sym faultless.version;
        never_through = laws.through (basis_of settings live answer) answer.plan.order settings.fees answer.plan
            (none_of_faultless (basis_of settings live answer) answer.plan.order settings.fees answer.plan (laws.rows sizes tape symbol Bid)
            (laws.rows sizes tape symbol Offer) faultless);
        optimal = sound.best.optimal;
        accepted = sound.best.accepted;
      };
    }

-- numbers that never fall: none is above a later one
pairs_of-rising : (ns : List ℕ) → IsRising ns → AllPairs (λ earlier later. earlier ≤ later) ns
pairs_of-rising [] rising = λ i j d less within. absurd (omega arith)
pairs_of-rising (n ∷ ns) rising =
    AllPairs-cons (λ earlier later. earlier ≤ later) n ns (All-from_recursion (λ m. n ≤ m) ns rising.0) (pairs_of-rising ns rising.1)

pub best_of_versions : (settings : Settings) (texts : List (List ℕ)) (orders : List DeskOrder) (live : Live) → AreLaws
    → IsLive settings texts orders live → AreBestOfTheirVersions settings live
best_of_versions settings texts orders live laws is =
    let sound : Answer → Type 0 = IsSound settings live.tape.items live.published.items in
    record {
      each = recursion_from_All (IsBestOfItsVersion settings live) (live.answers.items ++ live.closing.items)
          (All-weaker sound (IsBestOfItsVersion settings live) (best_of_version settings live laws)
          (live.answers.items ++ live.closing.items)
          (All-append sound live.answers.items live.closing.items (All-from_recursion sound live.answers.items is.answered.sound)
          (All-from_recursion sound live.closing.items is.answered.closing_sound)));
      no_older = λ desk. pairs_of-rising (versions (of_desk desk (live.answers.items ++ live.closing.items))) (is.answered.rising desk);
      told = is.answered.last;
    }
