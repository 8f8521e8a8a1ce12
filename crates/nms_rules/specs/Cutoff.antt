-- What a cut at a price says of all rows that an order may trade with. An order that trades at the price, and at no
-- worse one, has to sweep the protected rows at better prices in full (17 CFR 242.600, "intermarket sweep order"). It
-- takes the rest from the pool. The sums and the bound are this product's own rule.
use Rattle.std.specs.Prelude.{ℕ, ℤ, pos, neg_ℤ, ◌+◌, ◌-◌, ◌^◌, ◌<◌, ◌≤◌, ◌+ℤ◌, ◌-ℤ◌, ◌*ℤ◌, ◌≤ℤ◌, ◌&&◌, Bool, not, List, if◌then◌else◌}
use Rattle.std.specs.Int.{int_max}
use Rattle.std.specs.Int.RustNames.{int_le, int_lt}
use Rattle.nms_quote.specs.declared.certificate.CutKind.{CutKind}
use Rattle.nms_quote.specs.declared.certificate.CutKind.TheVariants.{TooMuch, TooLittle, Marginal}
use Rattle.nms_rules.specs.Assignment.{amount, total}
use Rattle.nms_rules.specs.Usable.{Usable}

-- a protected row at a better price than the cutoff
abbrev pub is_swept : ℤ → Usable → Bool
is_swept cutoff row = row.protected && int_lt row.rank cutoff

-- any other row at the cutoff or better
abbrev pub is_pooled : ℤ → Usable → Bool
is_pooled cutoff row = int_le row.rank cutoff && not (is_swept cutoff row)

-- how many shares must be swept, what they cost, and how many the pool has
abbrev pub swept_part : ℤ → Usable → ℕ
swept_part cutoff row = if is_swept cutoff row then row.size else 0

abbrev pub swept_cost_part : ℤ → Usable → ℤ
swept_cost_part cutoff row = if is_swept cutoff row then row.cost *ℤ pos row.size else pos 0

abbrev pub pool_part : ℤ → Usable → ℕ
pool_part cutoff row = if is_pooled cutoff row then row.size else 0

abbrev pub swept : ℤ → List Usable → ℕ
swept cutoff rows = total (swept_part cutoff) rows

abbrev pub swept_cost : ℤ → List Usable → ℤ
swept_cost cutoff rows = amount (swept_cost_part cutoff) rows

abbrev pub pool : ℤ → List Usable → ℕ
pool cutoff rows = total (pool_part cutoff) rows

-- how much less than the marginal the shares of the pool cost, if they cost less
abbrev pub savings_part : ℤ → ℤ → Usable → ℤ
savings_part cutoff marginal row = if is_pooled cutoff row then int_max (marginal -ℤ row.cost) (pos 0) *ℤ pos row.size else pos 0

abbrev pub savings : ℤ → ℤ → List Usable → ℤ
savings cutoff marginal rows = amount (savings_part cutoff marginal) rows

-- the least that filling n shares can cost, by the marginal: the rest costs that much a share, less the savings
abbrev pub least_cost : List Usable → ℕ → ℤ → ℤ → ℤ
least_cost rows most cutoff marginal =
    swept_cost cutoff rows +ℤ marginal *ℤ pos (most - swept cutoff rows) -ℤ savings cutoff marginal rows

-- a cost that is at most that, by a marginal within 10^18
pub record IsBounded (rows : List Usable) (most : ℕ) (cost cutoff marginal : ℤ) : Type 0 where
  pub enough : swept cutoff rows ≤ most
  pub low : neg_ℤ (pos (10 ^ 18)) ≤ℤ marginal
  pub high : marginal ≤ℤ pos (10 ^ 18)
  pub bound : cost ≤ℤ least_cost rows most cutoff marginal

-- what a cut of each kind says at a cutoff: more must be swept than can be filled; there is less than can be filled; or
-- the cost is bounded
abbrev pub KindHolds : List Usable → ℕ → ℤ → ℤ → CutKind → Type 0
KindHolds rows most cost cutoff TooMuch = most < swept cutoff rows
KindHolds rows most cost cutoff TooLittle = swept cutoff rows + pool cutoff rows < most
KindHolds rows most cost cutoff (Marginal marginal) = IsBounded rows most cost cutoff marginal
