-- How much an execution traded through, without the quotations that self-help takes out: how many, the greatest difference, the
-- shares and the dollars. This product's own rule.
use Rattle.std.specs.Prelude.{ℕ, ◌*◌, ◌-◌, ◌+◌, ◌==◌, ◌&&◌, ◌||◌, ◌+ℤ◌, ◌≤ℤ◌, ◌^◌, Bool, List, [], ◌∷◌, filter, fold, length, map, max}
use Rattle.std.specs.Prelude.{min, nat_lt, not, pos, suc}
use Rattle.std.specs.List.{count_by, list_any, sum_by}
use Rattle.nms_quote.specs.Members.{has_part}
use Rattle.nms_quote.specs.declared.side_quote.Side.{Side}
use Rattle.nms_board.specs.declared.row.Row.{Row}
use Rattle.nms_trades.specs.Counts.{flickers_at}
use Rattle.nms_trades.specs.declared.execution.Execution.{Execution}
use Rattle.nms_trades.specs.declared.finding.Finding.{Finding}
use Rattle.nms_trades.specs.declared.money_through.Sums.{Sums}

-- how far an execution's price is from a quotation's, in 1/1,000,000 dollar: one of the two differences is 0
abbrev pub difference : Row → ℕ → ℕ
difference row millionths = (row.price * 100 - millionths) + (millionths - row.price * 100)

-- whether rows are left, and all of them flickered
abbrev pub all_flicker : Sums → Bool
all_flicker sums = nat_lt 0 sums.count && sums.flickers == sums.count

-- whether self-help takes a row out: the execution names its participant
abbrev pub is_helped : Execution → Row → Bool
is_helped execution row = has_part execution.claims.self_help row.part

-- a quotation that was traded through, and whether it flickered
abbrev pub Marked : Type 0
Marked = Row × Bool

-- quotations from a place on among those of a finding
unfoldable pub marked_from : Finding → (place : ℕ) → List (Side × Row) → List Marked
marked_from finding place [] = []
marked_from finding place (passed ∷ rest) = (passed.1, flickers_at finding place) ∷ marked_from finding (suc place) rest

-- all of its quotations
abbrev pub marked_rows : Finding → List Marked
marked_rows finding = marked_from finding 0 finding.passed.items

-- those that self-help does not take out
abbrev pub rows_left : Execution → List Marked → List Marked
rows_left execution marked = filter (λ one. not (is_helped execution one.0)) marked

-- their differences to the price
abbrev pub differences : Execution → List Marked → List ℕ
differences execution marked = map (λ one. difference one.0 execution.millionths) marked

-- the greatest of some numbers, 0 of none
abbrev pub greatest : List ℕ → ℕ
greatest numbers = fold max 0 numbers

-- the shares that they display
abbrev pub displayed : List Marked → ℕ
displayed marked = sum_by (λ one. one.0.size) marked

-- what it costs to take shares at the price, and not from the quotations in their order: each share its difference
unfoldable pub cost_of : (millionths shares : ℕ) → List Marked → ℕ
cost_of millionths shares [] = 0
cost_of millionths shares (one ∷ rest) =
    difference one.0 millionths * min one.0.size shares + cost_of millionths (shares - one.0.size) rest

-- the sums of some quotations that an execution of n shares traded through
abbrev pub sums_in : Execution → (shares : ℕ) → List Marked → Sums
sums_in execution shares marked =
    let left = rows_left execution marked in
    record {
      count = length left;
      worst = greatest (differences execution left);
      shares = min shares (displayed left);
      dollars = pos (cost_of execution.millionths shares left);
      helped = list_any (λ one. is_helped execution one.0) marked;
      flickers = count_by (λ one. one.1) left;
    }

-- the sums of what is found about an execution
abbrev pub sums_found : Execution → Finding → Sums
sums_found execution finding = sums_in execution execution.shares (marked_rows finding)

-- the sums of some quotations, and of more of them
abbrev pub sums_with : (sums more : Sums) → Sums
sums_with sums more = record {
  count = sums.count + more.count;
  worst = max sums.worst more.worst;
  shares = sums.shares + more.shares;
  dollars = sums.dollars +ℤ more.dollars;
  helped = sums.helped || more.helped;
  flickers = sums.flickers + more.flickers;
}

-- dollars that are no loss, with less than 2^64 of them in 1/1,000,000 a share
pub record IsCost (sums : Sums) : Type 0 where
  pub low : pos 0 ≤ℤ sums.dollars
  pub high : sums.dollars ≤ℤ pos (2 ^ 64 * sums.shares)
