-- The protected prices of a participant in a symbol in each version (17 CFR 242.600, "protected bid or protected offer").
use Rattle.std.specs.Prelude.{ℕ, ◌≡◌, ◌==◌, ◌*◌, ◌<◌, ◌≤◌, ◌&&◌, Bool, List, length, slice_get, Option, Some, None, if◌then◌else◌}
use Rattle.nms_quote.specs.Roster.{Sizes}
use Rattle.nms_quote.specs.Tape.{Tape, version}
use Rattle.nms_quote.specs.declared.side_quote.Side.TheVariants.{Bid, Offer}
use Rattle.nms_quote.specs.declared.change.Change.{Change}
use Rattle.nms_quote.specs.declared.change.Change.TheVariants as change
use Rattle.nms_board.specs.Cells.{Board, place_of}
use Rattle.nms_board.specs.Quotation.{quotation_of}
use Rattle.nms_board.specs.Shown.{row_held}
use Rattle.nms_board.specs.declared.TheConstants.{MOST_ROWS}
use Rattle.nms_board.specs.declared.row.Row.{Row}
use Rattle.nms_trades.specs.Track.{HasTrack}
use Rattle.nms_trades.specs.declared.track.Limits.{Limits}
use Rattle.nms_trades.specs.declared.track.Track.{Track}

-- the price of a quotation, if it is protected
abbrev pub protected_price : Option Row → Option ℕ
protected_price None = None
protected_price (Some row) = if row.protected then Some row.price else None

-- those of both sides
abbrev pub limits_both : (bid offer : Option Row) → Limits
limits_both bid offer = record { bid = protected_price bid; offer = protected_price offer }

-- those of a participant in a symbol in a version
abbrev pub part_at : Sizes → Tape → (sym part n : ℕ) → Limits
part_at sizes tape sym part n =
    limits_both (quotation_of sizes (version n tape) sym Bid part) (quotation_of sizes (version n tape) sym Offer part)

-- those that a board holds
abbrev pub part_held : Board → (sym part : ℕ) → Limits
part_held board sym part = limits_both (row_held board sym Bid part) (row_held board sym Offer part)

-- each participant of a roster has a track of them in each symbol, up to a version
abbrev pub AreParts : Sizes → Tape → (upto : ℕ) → List Track → Type 0
AreParts sizes tape upto tracks =
    (sym part : ℕ) → sym < length sizes.lots → part < sizes.parts
    → HasTrack (part_at sizes tape sym part) upto (slice_get tracks (place_of part sym))

-- the tracks of them in all versions, `MOST_ROWS` places a symbol
pub record ArePartsOf (sizes : Sizes) (tape : Tape) (tracks : List Track) : Type 0 where
  pub narrow : sizes.parts ≤ MOST_ROWS
  pub count : length tracks ≡ MOST_ROWS * length sizes.lots
  pub parts : AreParts sizes tape (length tape) tracks

-- whether a change can alter what a participant quotes in a symbol
abbrev pub touches : (sym part : ℕ) → Change → Bool
touches sym part (change.Quote p s state bid offer) = p == part && s == sym
touches sym part (change.State p s state) = p == part && s == sym
touches sym part (change.Withdraw p) = p == part
touches sym part (change.Lot s lot) = s == sym
