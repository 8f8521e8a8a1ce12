-- The answers that a desk gets: records of text. This product's own rule.
use Rattle.std.specs.Prelude.{ℕ, List, [], ◌∷◌, ◌++◌, codes, length, map, Option, Some, None}
use Rattle.std.specs.List.{join_with_byte}
use Rattle.std.specs.Fmt.{decimal}
use Rattle.nms_units.specs.Price.{price_text}
use Rattle.nms_quote.specs.Roster.{Listing, part_text, symbol_text}
use Rattle.nms_quote.specs.declared.side_quote.Side.{Side}
use Rattle.nms_board.specs.View.{Seen}
use Rattle.nms_board.specs.declared.row.Row.{Row}
use Rattle.nms_nbbo.specs.Market.{market_of}
use Rattle.nms_nbbo.specs.declared.market_kind.Market.{Market}
use Rattle.nms_nbbo.specs.declared.market_kind.Market.TheVariants as market
use Rattle.nms_lines.specs.Sides.{side_word}
use Rattle.nms_lines.specs.Layout.{Record}
use Rattle.nms_lines.specs.Text.{later_fields}

-- a refused record is named by its number and the code
abbrev pub refusal : ℕ → List ℕ → Record
refusal number code = codes "ERR" ∷ decimal number ∷ code ∷ []

-- a change was taken, and the tape has n
abbrev pub taken_record : ℕ → Record
taken_record version = codes "TAKEN" ∷ decimal version ∷ []

-- a version was published
abbrev pub published_record : ℕ → Record
published_record version = codes "PUB" ∷ decimal version ∷ []

-- a desk has learned of a version
abbrev pub told_record : ℕ → ℕ → Record
told_record desk version = codes "TOLD" ∷ decimal desk ∷ decimal version ∷ []

abbrev pub market_word : Market → List ℕ
market_word market.Empty = codes "EMPTY"
market_word market.OneSided = codes "ONESIDED"
market_word market.Normal = codes "NORMAL"
market_word market.Locked = codes "LOCKED"
market_word market.Crossed = codes "CROSSED"

-- a best row: participant, price, displayed size, receipt; four empty fields if a side has none
abbrev pub best_fields : Listing → Option Row → List (List ℕ)
best_fields roster None = [] ∷ [] ∷ [] ∷ [] ∷ []
best_fields roster (Some row) = part_text roster row.part ∷ price_text row.price ∷ decimal row.size ∷ decimal row.receipt ∷ []

-- the national best bid and offer as a desk saw it: the bid, then the offer
abbrev pub best_record : Listing → ℕ → Seen → Option Row → Option Row → Record
best_record roster desk seen bid offer =
    codes "BEST" ∷ decimal desk ∷ symbol_text roster seen.sym ∷ decimal seen.version ∷ market_word (market_of bid offer)
    ∷ (best_fields roster bid ++ best_fields roster offer)

-- the first fields of it, as text
abbrev pub look_text : ℕ → List ℕ → ℕ → List ℕ → List ℕ
look_text desk sym version market = join_with_byte 44 (codes "BEST" ∷ decimal desk ∷ sym ∷ decimal version ∷ market ∷ [])

-- the fields of both rows after those, and the end of the record
abbrev pub rows_text : Listing → Option Row → Option Row → List ℕ
rows_text roster bid offer = later_fields (best_fields roster bid) ++ later_fields (best_fields roster offer) ++ 10 ∷ []

-- how many quotations a trade at a price trades through, of what a desk saw
abbrev pub through_head : Listing → ℕ → Seen → ℕ → ℕ → Record
through_head roster desk seen price count =
    codes "THRU" ∷ decimal desk ∷ symbol_text roster seen.sym ∷ decimal seen.version ∷ price_text price ∷ decimal count ∷ []

-- one of them: side, participant, price, displayed size
abbrev pub through_row : Listing → Side × Row → Record
through_row roster quotation =
    codes "ROW" ∷ side_word quotation.0 ∷ part_text roster quotation.1.part ∷ price_text quotation.1.price ∷ decimal quotation.1.size ∷ []

-- their number, then each of them
abbrev pub through_records : Listing → ℕ → Seen → ℕ → List (Side × Row) → List Record
through_records roster desk seen price quotations = through_head roster desk seen price (length quotations)
    ∷ map (through_row roster) quotations
