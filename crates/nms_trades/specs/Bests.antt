-- The best protected prices of a symbol in each version (17 CFR 242.600, "protected bid or protected offer").
use Rattle.std.specs.Prelude.{ℕ, ◌<◌, List, length, option_map, slice_get, Option}
use Rattle.nms_quote.specs.Roster.{Sizes}
use Rattle.nms_quote.specs.Tape.{Tape, version}
use Rattle.nms_quote.specs.declared.side_quote.Side.TheVariants.{Bid, Offer}
use Rattle.nms_board.specs.Ranking.{ranked}
use Rattle.nms_board.specs.View.{Seen, view_of}
use Rattle.nms_board.specs.declared.row.Row.{Row}
use Rattle.nms_trades.specs.Judged.{best_protected}
use Rattle.nms_trades.specs.Track.{HasTrack}
use Rattle.nms_trades.specs.declared.track.Limits.{Limits}
use Rattle.nms_trades.specs.declared.track.Track.{Track}

-- the price of the best protected one of rows in rank order
abbrev pub best_price : List Row → Option ℕ
best_price rows = option_map (λ row. row.price) (best_protected rows)

-- the best protected prices of what is seen: those of the protected bid and offer that rank first
abbrev pub limits_of : Seen → Limits
limits_of seen = record { bid = best_price (ranked Bid seen.bids); offer = best_price (ranked Offer seen.offers) }

-- those of a symbol in a version
abbrev pub best_at : Sizes → Tape → (sym n : ℕ) → Limits
best_at sizes tape sym n = limits_of (view_of sizes (version n tape) sym)

-- each symbol of a roster has a track of them, up to a version
abbrev pub AreBests : Sizes → Tape → (upto : ℕ) → List Track → Type 0
AreBests sizes tape upto bests =
    (sym : ℕ) → sym < length sizes.lots → HasTrack (best_at sizes tape sym) upto (slice_get bests sym)
