-- The prices that an order could trade at, and what each requires: how many shares must be swept there (17 CFR 242.600,
-- "intermarket sweep order"), what they cost with fees, and how many the pool has. The sums are this product's own rule.
use Rattle.std.specs.Prelude.{pos, neg_ℤ, ◌≡◌, ◌^◌, ◌≤ℤ◌, true, List, [], ◌∷◌, Option, Some, None, All, AllPairs, Any}
use Rattle.nms_quote.specs.declared.order.OrderSide.{OrderSide}
use Rattle.nms_rules.specs.Cutoff.{pool, swept, swept_cost}
use Rattle.nms_rules.specs.Usable.{Usable, is_better, rank_of}
use Rattle.nms_sweep.specs.Choice.{per_price}
use Rattle.nms_sweep.specs.declared.cutoffs.Cutoff.{Cutoff}

-- the sums that a cutoff has are those of the rows
pub record IsCutoffOf (side : OrderSide) (rows : List Usable) (cutoff : Cutoff) : Type 0 where
  pub swept : cutoff.swept ≡ swept (rank_of side cutoff.price) rows
  pub swept_cost : cutoff.swept_cost ≡ swept_cost (rank_of side cutoff.price) rows
  pub pool : cutoff.pool ≡ pool (rank_of side cutoff.price) rows

-- each usable price has a cutoff, and each cutoff is at a usable price; each is at a better price than all after it,
-- and has the sums at its price
pub record AreCutoffs (side : OrderSide) (rows : List Usable) (cutoffs : List Cutoff) : Type 0 where
  pub each_price : All (λ row. Any (λ cutoff. cutoff.price ≡ row.price) cutoffs) rows
  pub no_other : All (λ cutoff. Any (λ row. row.price ≡ cutoff.price) rows) cutoffs
  pub best_first : AllPairs (λ cutoff later. is_better side cutoff.price later.price ≡ true) cutoffs
  pub sums : All (λ cutoff. IsCutoffOf side rows cutoff) cutoffs

-- the first of the cutoffs to come is given and the others are still to come; none is given exactly if none was to come
abbrev pub GivesNext : List Cutoff → Option Cutoff → List Cutoff → Type 0
GivesNext [] given later = (given ≡ None) × (later ≡ [])
GivesNext (cutoff ∷ cutoffs) given later = (given ≡ Some cutoff) × (later ≡ cutoffs)

-- what is swept at a given cutoff costs no more than that, paid or received
abbrev pub HasCostWithin : Option Cutoff → Type 0
HasCostWithin None = Unit {0}
HasCostWithin (Some cutoff) = (neg_ℤ (pos (2 ^ 106)) ≤ℤ cutoff.swept_cost) × (cutoff.swept_cost ≤ℤ pos (2 ^ 106))

-- a walk over the prices: the usable rows in the order of their prices, and the cutoffs that are still to come
pub record Walk : Type 0 where
  pub rows : List Usable
  pub to_come : List Cutoff

-- ---- of rows in the order of their prices

-- the cutoff at a row's price
abbrev pub cutoff_at : List Usable → Usable → Cutoff
cutoff_at rows row = record {
  price = row.price;
  swept = swept row.rank rows;
  swept_cost = swept_cost row.rank rows;
  pool = pool row.rank rows;
}

-- those of the prices of some of the rows
abbrev pub cutoffs_of : List Usable → List Usable → List Cutoff
cutoffs_of rows some = per_price (cutoff_at rows) some
