-- The best quotations of a symbol (17 CFR 242.600, "national best bid and national best offer"), and when two of them
-- look alike. Only what a line shows is compared: this is this product's own rule.
use Rattle.std.specs.Prelude.{ℕ, ◌==◌, ◌&&◌, Bool, true, false, Option, Some, None}
use Rattle.nms_quote.specs.Roster.{Sizes}
use Rattle.nms_quote.specs.Tape.{Tape}
use Rattle.nms_quote.specs.declared.side_quote.Side.TheVariants.{Bid, Offer}
use Rattle.nms_board.specs.Ranking.{ranked_at}
use Rattle.nms_board.specs.View.{Seen, view_of}
use Rattle.nms_board.specs.declared.row.Row.{Row}
use Rattle.nms_stream.specs.declared.quoted.Quoted.{Quoted}

-- the best bid and the best offer of what is seen: on each side the row that no row ranks above
abbrev pub quoted_in : Seen → Quoted
quoted_in seen = record { bid = ranked_at Bid seen.bids 0; offer = ranked_at Offer seen.offers 0 }

-- those of a symbol after the changes of a tape
unfoldable pub quoted_at : Sizes → Tape → ℕ → Quoted
quoted_at sizes tape sym = quoted_in (view_of sizes tape sym)

-- whether two best rows look alike: they are of one participant, at one price, with one displayed size; or there are none
abbrev pub is_alike : Option Row → Option Row → Bool
is_alike None None = true
is_alike None (Some row) = false
is_alike (Some row) None = false
is_alike (Some row) (Some other) = row.part == other.part && row.price == other.price && row.size == other.size

-- whether both best rows look alike
abbrev pub are_alike : Quoted → Quoted → Bool
are_alike quoted other = is_alike quoted.bid other.bid && is_alike quoted.offer other.offer
