-- What a look at one symbol shows.
use Rattle.std.specs.Prelude.{ℕ, ◌≢◌, ◌==◌, ◌<◌, All, AllPairs, List, [], length, map, Option}
use Rattle.std.specs.List.{find}
use Rattle.std.specs.List.Sorted.{IsStrictlyIncreasing}
use Rattle.nms_quote.specs.Roster.{Sizes}
use Rattle.nms_quote.specs.Tape.{Tape}
use Rattle.nms_quote.specs.declared.side_quote.Side.{Side}
use Rattle.nms_quote.specs.declared.side_quote.Side.TheVariants.{Bid, Offer}
use Rattle.nms_board.specs.History.{on_side}
use Rattle.nms_board.specs.Quotation.{quotations}
use Rattle.nms_board.specs.declared.row.Row.{Row}

-- a version's number, a symbol, and its quotations by participant place
pub record Seen : Type 0 where
  pub version : ℕ
  pub sym : ℕ
  pub bids : List Row
  pub offers : List Row

-- a version shows nothing of a symbol
abbrev pub seen_nothing : (version sym : ℕ) → Seen
seen_nothing version sym = record { version = version; sym = sym; bids = []; offers = [] }

abbrev pub rows_on : Side → Seen → List Row
rows_on side seen = on_side side seen.bids seen.offers

-- the row of a participant
abbrev pub row_of : Side → ℕ → Seen → Option Row
row_of side part seen = find (λ row. row.part == part) (rows_on side seen)

-- rows as a side shows them: by participant place, each of a size, no two of one receipt
pub record AreRows (rows : List Row) : Type 0 where
  pub rising : IsStrictlyIncreasing (map (λ row. row.part) rows)
  pub sizes : All (λ row. 0 < row.size) rows
  pub receipts : AllPairs (λ row other. row.receipt ≢ other.receipt) rows

-- the view of the complete tape
abbrev pub view_of : Sizes → Tape → ℕ → Seen
view_of sizes tape sym = record {
  version = length tape;
  sym = sym;
  bids = quotations sizes tape sym Bid;
  offers = quotations sizes tape sym Offer;
}
