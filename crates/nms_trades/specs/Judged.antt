-- What is found about an execution: the protected quotations that it trades through in the version in force (17 CFR 242.600,
-- "trade-through"; 242.611(a)), and whether the market was crossed (242.611(b)(4)).
use Rattle.std.specs.Prelude.{ℕ, ◌≡◌, ◌+◌, ◌/◌, ◌++◌, Bool, false, List, filter, map, nat_lt, Option, Some, None}
use Rattle.std.specs.List.{find}
use Rattle.nms_quote.specs.Roster.{Sizes}
use Rattle.nms_quote.specs.Tape.{Tape, version}
use Rattle.nms_quote.specs.declared.side_quote.Side.{Side}
use Rattle.nms_quote.specs.declared.side_quote.Side.TheVariants.{Bid, Offer}
use Rattle.nms_board.specs.Ranking.{ranked, ranked_at}
use Rattle.nms_board.specs.View.{Seen, rows_on, view_of}
use Rattle.nms_board.specs.declared.row.Row.{Row}
use Rattle.nms_rules.specs.Through.{is_through}
use Rattle.nms_trades.specs.declared.execution.Execution.{Execution}
use Rattle.nms_trades.specs.declared.finding.Best.{Best}
use Rattle.nms_trades.specs.declared.finding.Finding.{Finding}

-- the price in 1/10,000 dollar that decides for a price in 1/1,000,000: the next one below for bids, the next above for offers
abbrev pub whole_price : Side → ℕ → ℕ
whole_price Bid millionths = millionths / 100
whole_price Offer millionths = (millionths + 99) / 100

-- the protected quotations of a side that are traded through, in rank order
abbrev pub passed_on : Side → Seen → ℕ → List (Side × Row)
passed_on side seen millionths =
    map (λ row. (side, row)) (filter (is_through side (whole_price side millionths)) (ranked side (rows_on side seen)))

-- the bids above the price, then the offers below it
abbrev pub passed_at : Seen → ℕ → List (Side × Row)
passed_at seen millionths = passed_on Bid seen millionths ++ passed_on Offer seen millionths

-- the protected row that ranks first
abbrev pub best_protected : List Row → Option Row
best_protected rows = find (λ row. row.protected) rows

-- whether a best protected bid is above a best protected offer
abbrev pub is_above : Option Row → Option Row → Bool
is_above None offer = false
is_above (Some bid) None = false
is_above (Some bid) (Some offer) = nat_lt offer.price bid.price

-- the same of rows in rank order
abbrev pub is_crossed : List Row → List Row → Bool
is_crossed bids offers = is_above (best_protected bids) (best_protected offers)

-- the best bid and the best offer of what is seen: the quotations that rank first, protected or not (17 CFR 242.600, "national best
-- bid and national best offer")
abbrev pub best_in : Seen → Best
best_in seen = record { bid = ranked_at Bid seen.bids 0; offer = ranked_at Offer seen.offers 0 }

-- what is found about an execution at a price, on what is seen
pub record IsFoundOn (seen : Seen) (millionths : ℕ) (finding : Finding) : Type 0 where
  pub passed : finding.passed.items ≡ passed_at seen millionths
  pub crossed : finding.crossed ≡ is_crossed (ranked Bid seen.bids) (ranked Offer seen.offers)
  pub best : finding.best ≡ best_in seen

-- on the version of the changes that it names
abbrev pub IsFound : Sizes → Tape → Execution → Finding → Type 0
IsFound sizes tape execution finding =
    IsFoundOn (view_of sizes (version execution.version tape) execution.sym) execution.millionths finding
