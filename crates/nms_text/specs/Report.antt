-- The report of one symbol that a reviewer reads: a header, the bids and the offers by participant place,
-- and the pairs that lock or cross. This product's own rule.
use Rattle.std.specs.Prelude.{ℕ, ◌≡◌, ◌-◌, ◌==◌, Bool, false, List, [], ◌∷◌, ◌++◌, length, replicate, codes, Option, Some, None}
use Rattle.std.specs.Prelude.{if◌then◌else◌}
use Rattle.std.specs.List.{flat_map, join_with_byte}
use Rattle.std.specs.Fmt.{decimal}
use Rattle.nms_units.specs.Price.{price_text}
use Rattle.nms_quote.specs.Roster.{Listing, part_text, symbol_text}
use Rattle.nms_quote.specs.declared.side_quote.Side.{Side}
use Rattle.nms_quote.specs.declared.side_quote.Side.TheVariants.{Bid, Offer}
use Rattle.nms_lines.specs.Sides.{side_word}
use Rattle.nms_board.specs.View.{Seen, rows_on}
use Rattle.nms_board.specs.declared.row.Row.{Row}
use Rattle.nms_nbbo.specs.Market.{market_of}
use Rattle.nms_nbbo.specs.Pairs.{pairs_from}
use Rattle.nms_nbbo.specs.Best.{IsBestOf}
use Rattle.nms_nbbo.specs.declared.market_kind.Market.{Market}
use Rattle.nms_nbbo.specs.declared.pair.Pair.{Pair}
use Rattle.nms_nbbo.specs.declared.pair.Clause.{Clause}
use Rattle.nms_nbbo.specs.declared.pair.Clause.TheVariants as clause
use Rattle.nms_text.specs.Answers.{market_word}

-- a text at the left of a column, then spaces; one longer than the column is written as it is
abbrev pub at_left : ℕ → List ℕ → List ℕ
at_left width text = text ++ replicate (width - length text) 32

-- a text at the right of a column, after spaces
abbrev pub at_right : ℕ → List ℕ → List ℕ
at_right width text = replicate (width - length text) 32 ++ text

-- columns with a space between two, and a line feed
abbrev pub line_of : List (List ℕ) → List ℕ
line_of columns = join_with_byte 32 columns ++ 10 ∷ []

-- the symbol, the version, and the state of the market between the best bid and offer
abbrev pub header_line : Listing → Seen → Market → List ℕ
header_line roster seen market = line_of (at_left 8 (symbol_text roster seen.sym) ∷ at_right 8 (decimal seen.version) ∷ market_word market
    ∷ [])

-- P for a protected quotation, M for a manual one
abbrev pub state_word : Bool → List ℕ
state_word protected = if protected then codes "P" else codes "M"

-- whether a row is of the best row's participant
abbrev pub is_best : Option Row → Row → Bool
is_best None row = false
is_best (Some best) row = best.part == row.part

-- a star for the best row of a side
abbrev pub mark_word : Bool → List ℕ
mark_word best = if best then codes "*" else codes "-"

-- a row: side, participant, price, displayed size, receipt, P or M, star or dash
abbrev pub row_line : Listing → Side → Option Row → Row → List ℕ
row_line roster side best row =
    line_of (at_left 5 (side_word side) ∷ at_left 4 (part_text roster row.part) ∷ at_right 12 (price_text row.price)
    ∷ at_right 9 (decimal row.size) ∷ at_right 8 (decimal row.receipt) ∷ state_word row.protected ∷ mark_word (is_best best row) ∷ [])

-- the rows of a side
abbrev pub side_text : Listing → Seen → Side → Option Row → List ℕ
side_text roster seen side best = flat_map (row_line roster side best) (rows_on side seen)

abbrev pub pair_word : Bool → List ℕ
pair_word crossed = if crossed then codes "CROSS" else codes "LOCK"

abbrev pub clause_word : Clause → List ℕ
clause_word clause.Protected = codes "PROTECTED"
clause_word clause.Manual = codes "MANUAL"
clause_word clause.Neither = codes "NEITHER"

-- a pair: whether it locks or crosses, the participants of the bid, of the offer and of the later, the clause
abbrev pub pair_line : Listing → Pair → List ℕ
pair_line roster pair =
    line_of (at_left 5 (pair_word pair.crossed) ∷ at_left 4 (part_text roster pair.bid.part) ∷ at_left 4 (part_text roster pair.offer.part)
    ∷ at_left 4 (part_text roster pair.later) ∷ clause_word pair.clause ∷ [])

-- the pairs, in order of place
unfoldable pub pairs_text : Listing → Seen → List ℕ
pairs_text roster seen = flat_map (pair_line roster) (pairs_from 0 seen)

-- all of it, for a best bid and a best offer
abbrev pub report_text : Listing → Seen → Option Row → Option Row → List ℕ
report_text roster seen bid offer =
    header_line roster seen (market_of bid offer) ++ side_text roster seen Bid bid ++ side_text roster seen Offer offer
    ++ pairs_text roster seen

-- the report of what is seen, whichever rows are taken for the best if there are several
pub record IsReport (roster : Listing) (seen : Seen) (text : List ℕ) : Type 0 where
  pub bid : Option Row
  pub offer : Option Row
  pub best_bid : IsBestOf Bid (rows_on Bid seen) bid
  pub best_offer : IsBestOf Offer (rows_on Offer seen) offer
  pub is : text ≡ report_text roster seen bid offer
