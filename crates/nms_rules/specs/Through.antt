-- What a trade at a price trades through: protected bids above it and protected offers below it
-- (17 CFR 242.600, "trade-through"; 242.611(a)).
use Rattle.std.specs.Prelude.{ℕ, ◌++◌, ◌&&◌, Bool, List, map}
use Rattle.std.specs.List.{filter}
use Rattle.nms_quote.specs.declared.side_quote.Side.{Side}
use Rattle.nms_quote.specs.declared.side_quote.Side.TheVariants.{Bid, Offer}
use Rattle.nms_board.specs.Ranking.{better_price}
use Rattle.nms_board.specs.View.{Seen}
use Rattle.nms_board.specs.declared.row.Row.{Row}

-- a protected quotation at a better price: a bid above it, an offer below it
abbrev pub is_through : Side → ℕ → Row → Bool
is_through side price row = row.protected && better_price side row.price price

-- those of a side, by participant place
abbrev pub through_on : Side → List Row → ℕ → List (Side × Row)
through_on side rows price = map (λ row. (side, row)) (filter (is_through side price) rows)

-- the bids above the price, then the offers below it
abbrev pub traded_through_at : Seen → ℕ → List (Side × Row)
traded_through_at seen price = through_on Bid seen.bids price ++ through_on Offer seen.offers price
