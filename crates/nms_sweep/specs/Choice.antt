-- Which of the best plans is chosen. At a cutoff, the protected rows at better prices in full, then the pool by unit cost, then
-- better price, then place. The cutoff is the one of least cost; if several have it, the one at the best price. This product's
-- own rule.
use Rattle.std.specs.Prelude.{ℕ, ℤ, pos, neg_ℤ, ◌-◌, ◌^◌, ◌==◌, ◌≤ℤ◌, ◌&&◌, Bool, false, not, min, nat_le, nat_lt, List, [], ◌∷◌, Option}
use Rattle.std.specs.Prelude.{Some, None, if◌then◌else◌}
use Rattle.std.specs.Int.RustNames.{int_lt}
use Rattle.nms_quote.specs.declared.certificate.Cut.{Cut}
use Rattle.nms_quote.specs.declared.certificate.CutKind.{CutKind}
use Rattle.nms_quote.specs.declared.certificate.CutKind.TheVariants.{TooMuch, TooLittle, Marginal}
use Rattle.nms_quote.specs.declared.order.OrderSide.{OrderSide}
use Rattle.nms_quote.specs.declared.plan.Leg.{Leg}
use Rattle.nms_rules.specs.Assignment.{total}
use Rattle.nms_rules.specs.Cutoff.{is_pooled, is_swept, least_cost, pool, pool_part, swept}
use Rattle.nms_rules.specs.Usable.{Usable, rank_of}
use Rattle.nms_sweep.specs.declared.choice.Choice.{Choice}
use Rattle.nms_sweep.specs.declared.cutoffs.Cutoff.{Cutoff}

-- ---- the marginal

-- a row of the pool has the shares that are needed
abbrev pub has_last : ℤ → ℕ → Usable → Bool
has_last cutoff number row = is_pooled cutoff row && nat_le number row.size

-- what share number `number` of the pool costs, of rows in the order of their costs; for number 0, the pool's least
-- unit cost
unfoldable pub share_cost : ℤ → ℕ → ℤ → List Usable → ℤ
share_cost cutoff number last [] = last
share_cost cutoff number last (row ∷ rows) =
    if has_last cutoff number row then row.cost else share_cost cutoff (number - pool_part cutoff row) row.cost rows

-- ---- the cuts

-- what the cut at a cutoff says, if n shares must be swept and the pool has m
abbrev pub kind_by : List Usable → ℕ → ℤ → ℕ → ℕ → CutKind
kind_by by_cost most cutoff swept pool =
    if nat_lt most swept then TooMuch
    else if nat_lt pool (most - swept) then TooLittle
    else Marginal (share_cost cutoff (most - swept) (pos 0) by_cost)

-- a marginal within 10^18, if it is one
abbrev pub IsInRange : CutKind → Type 0
IsInRange TooMuch = Unit {0}
IsInRange TooLittle = Unit {0}
IsInRange (Marginal marginal) = (neg_ℤ (pos (10 ^ 18)) ≤ℤ marginal) × (marginal ≤ℤ pos (10 ^ 18))

-- the first of the rows is at a price
abbrev pub starts_at : ℕ → List Usable → Bool
starts_at price [] = false
starts_at price (row ∷ rows) = row.price == price

-- what the last row of each price makes, of rows in the order of their prices
unfoldable pub per_price : {X : Type 0} → (Usable → X) → List Usable → List X
per_price made [] = []
per_price made (row ∷ rows) = if starts_at row.price rows then per_price made rows else made row ∷ per_price made rows

-- the cut of a cutoff
abbrev pub cut_by : OrderSide → List Usable → ℕ → Cutoff → Cut
cut_by side by_cost most cutoff = record {
  price = cutoff.price;
  kind =
      kind_by by_cost most (rank_of side cutoff.price) cutoff.swept cutoff.pool;
}

-- ---- the cutoff

-- a cutoff that can be filled at, by its cut
abbrev pub candidate : List Usable → ℕ → ℤ → CutKind → Option Choice
candidate rows most cutoff TooMuch = None
candidate rows most cutoff TooLittle = None
candidate rows most cutoff (Marginal marginal) =
    Some (record { cutoff = cutoff; marginal = marginal; cost = least_cost rows most cutoff marginal })

-- the one of less cost; the first one if they cost alike
abbrev pub cheaper : Option Choice → Option Choice → Option Choice
cheaper None other = other
cheaper (Some one) None = Some one
cheaper (Some one) (Some other) = if int_lt other.cost one.cost then Some other else Some one

-- the best of those so far and of each cut in turn
unfoldable pub chosen : OrderSide → List Usable → ℕ → Option Choice → List Cut → Option Choice
chosen side rows most best [] = best
chosen side rows most best (cut ∷ cuts) = chosen side rows most (cheaper best (candidate rows most (rank_of side cut.price) cut.kind)) cuts

-- ---- the legs

-- a row of the pool that costs less than the marginal
abbrev pub is_below : ℤ → ℤ → Usable → Bool
is_below cutoff marginal row = is_pooled cutoff row && int_lt row.cost marginal

-- a row of the pool that costs exactly the marginal
abbrev pub is_level : ℤ → ℤ → Usable → Bool
is_level cutoff marginal row = is_pooled cutoff row && not (int_lt row.cost marginal) && not (int_lt marginal row.cost)

-- how many shares such rows have
abbrev pub below_part : ℤ → ℤ → Usable → ℕ
below_part cutoff marginal row = if is_below cutoff marginal row then row.size else 0

abbrev pub below : ℤ → ℤ → List Usable → ℕ
below cutoff marginal rows = total (below_part cutoff marginal) rows

-- what a row gets, if n shares are left to take at the marginal
abbrev pub share_of : ℤ → ℤ → ℕ → Usable → ℕ
share_of cutoff marginal left row =
    if is_swept cutoff row then row.size else if is_below cutoff marginal row then row.size else if is_level cutoff marginal row then min
    left row.size else 0

-- and what is left after it
abbrev pub left_after : ℤ → ℤ → ℕ → Usable → ℕ
left_after cutoff marginal left row = if is_level cutoff marginal row then left - row.size else left

-- a leg for a row that gets shares
abbrev pub with_leg : Usable → ℕ → List Leg → List Leg
with_leg row shares legs = if nat_lt 0 shares then record { part = row.part; price = row.price; shares = shares } ∷ legs else legs

-- the legs, of rows in the order of their prices: at the marginal the better price is first, then the lower place
unfoldable pub legs_of : ℤ → ℤ → ℕ → List Usable → List Leg
legs_of cutoff marginal left [] = []
legs_of cutoff marginal left (row ∷ rows) =
    with_leg row (share_of cutoff marginal left row) (legs_of cutoff marginal (left_after cutoff marginal left row) rows)

-- the legs at the chosen cutoff; none if nothing can be filled
abbrev pub legs_chosen : List Usable → ℕ → Option Choice → List Usable → List Leg
legs_chosen rows most None by_price = []
legs_chosen rows most (Some choice) by_price =
    legs_of choice.cutoff choice.marginal (most - swept choice.cutoff rows - below choice.cutoff choice.marginal rows) by_price

-- what is paid there
abbrev pub cost_chosen : Option Choice → ℤ
cost_chosen None = pos 0
cost_chosen (Some choice) = choice.cost
