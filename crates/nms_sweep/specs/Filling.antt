-- How a plan fills its order, and what its cuts say. At a cutoff the protected rows at better prices get their full
-- size (17 CFR 242.600, "intermarket sweep order"). Then the pool is taken by unit cost, then better price, then place.
-- A cut states what the last needed share costs. Both are this product's own rule.
use Rattle.std.specs.Prelude.{ℕ, ℤ, ◌≡◌, ◌<◌, ◌≤◌, ◌+◌, ◌-◌, ◌<ℤ◌, ◌&&◌, true, max, List, All, Any, if◌then◌else◌}
use Rattle.std.specs.Int.RustNames.{int_le}
use Rattle.nms_quote.specs.declared.certificate.Cut.{Cut}
use Rattle.nms_quote.specs.declared.certificate.CutKind.{CutKind}
use Rattle.nms_quote.specs.declared.certificate.CutKind.TheVariants.{TooMuch, TooLittle, Marginal}
use Rattle.nms_quote.specs.declared.order.OrderSide.{OrderSide}
use Rattle.nms_rules.specs.Assignment.{Assignment, filled, total}
use Rattle.nms_rules.specs.Cutoff.{is_pooled, is_swept, pool, swept}
use Rattle.nms_rules.specs.Usable.{Usable, rank_of}
use Rattle.nms_sweep.specs.Choice.{below}
use Rattle.nms_sweep.specs.Order.{is_taken_before}

-- ---- the shares

-- every row of the pool that is taken before this one, by unit cost, then price, then place, gets its full size
abbrev pub TakesEarlier : ℤ → List Usable → Assignment → Usable → Type 0
TakesEarlier cutoff rows given row = All (λ other. is_pooled cutoff other ≡ true → is_taken_before other row ≡ true → given other.part
    ≡ other.size) rows

-- at a cutoff, which is a usable price if anything is filled: what must be swept is swept; a row of the pool gets
-- shares only if every earlier one is full; no row at a worse price gets any
pub record FillsAt (rows : List Usable) (given : Assignment) (cutoff : ℤ) : Type 0 where
  pub at : 0 < filled given rows → Any (λ row. row.rank ≡ cutoff) rows
  pub sweeps : All (λ row. is_swept cutoff row ≡ true → given row.part ≡ row.size) rows
  pub takes : All (λ row. is_pooled cutoff row ≡ true → 0 < given row.part → TakesEarlier cutoff rows given row) rows
  pub beyond : All (λ row. cutoff <ℤ row.rank → given row.part ≡ 0) rows

-- at some cutoff
abbrev pub FillsInOrder : List Usable → Assignment → Type 0
FillsInOrder rows given = (cutoff : ℤ) × FillsAt rows given cutoff

-- ---- the cuts

-- how many shares of the pool cost no more than that
abbrev pub up_to_part : ℤ → ℤ → Usable → ℕ
up_to_part cutoff cost row = if is_pooled cutoff row && int_le row.cost cost then row.size else 0

abbrev pub up_to : ℤ → ℤ → List Usable → ℕ
up_to cutoff cost rows = total (up_to_part cutoff cost) rows

-- the cost of one share of the pool, by its number, the cheapest first: the cost of some row of the pool. Fewer shares
-- than the number cost less, and at least n cost no more. For number 0, what the cheapest costs
pub record IsShareCost (rows : List Usable) (cutoff : ℤ) (number : ℕ) (cost : ℤ) : Type 0 where
  pub some : Any (λ row. (is_pooled cutoff row ≡ true) × (row.cost ≡ cost)) rows
  pub fewer : below cutoff cost rows < max number 1
  pub as_many : number ≤ up_to cutoff cost rows

-- the marginal of a price at which n can be filled: the cost of the last share that is needed from the pool
pub record IsMarginalAt (rows : List Usable) (most : ℕ) (cutoff marginal : ℤ) : Type 0 where
  pub sweeps : swept cutoff rows ≤ most
  pub reaches : most ≤ swept cutoff rows + pool cutoff rows
  pub last : IsShareCost rows cutoff (most - swept cutoff rows) marginal

-- the kind that a price has: more must be swept than can be filled, or there is less, or it has a marginal
abbrev pub KindIs : List Usable → ℕ → ℤ → CutKind → Type 0
KindIs rows most cutoff TooMuch = most < swept cutoff rows
KindIs rows most cutoff TooLittle = swept cutoff rows + pool cutoff rows < most
KindIs rows most cutoff (Marginal marginal) = IsMarginalAt rows most cutoff marginal

-- each cut says what its price requires
abbrev pub AreExact : OrderSide → List Usable → ℕ → List Cut → Type 0
AreExact side rows most cuts = All (λ cut. KindIs rows most (rank_of side cut.price) cut.kind) cuts
