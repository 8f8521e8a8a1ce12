-- The stream of a tape: a header, and a line exactly when a symbol's best bid, best offer or market changes from one
-- version to the next. At version 0 nothing is quoted. This product's own rule.
use Rattle.std.specs.Prelude.{ℕ, ◌+◌, List, [], ◌∷◌, ◌++◌, codes, length, Option, Some, None, if◌then◌else◌}
use Rattle.std.specs.Fmt.{decimal}
use Rattle.std.specs.List.{flat_map, range_with_len}
use Rattle.nms_units.specs.Price.{price_text}
use Rattle.nms_quote.specs.Roster.{Listing, part_text, sizes_of, symbol_text}
use Rattle.nms_quote.specs.Tape.{Tape, version}
use Rattle.nms_board.specs.declared.row.Row.{Row}
use Rattle.nms_lines.specs.Layout.{Record}
use Rattle.nms_lines.specs.Text.{text_of}
use Rattle.nms_nbbo.specs.Market.{market_of}
use Rattle.nms_text.specs.Answers.{market_word}
use Rattle.nms_stream.specs.Quoted.{are_alike, quoted_at}
use Rattle.nms_stream.specs.declared.quoted.Quoted.{Quoted}

-- the names of the columns
abbrev pub header : Record
header =
    codes "version" ∷ codes "symbol" ∷ codes "market" ∷ codes "bid_participant" ∷ codes "bid_price" ∷ codes "bid_shares"
    ∷ codes "offer_participant" ∷ codes "offer_price" ∷ codes "offer_shares" ∷ []

-- what a line shows of a best row: participant, price, displayed size; three empty fields if a side has none
abbrev pub side_fields : Listing → Option Row → List (List ℕ)
side_fields roster None = [] ∷ [] ∷ [] ∷ []
side_fields roster (Some row) = part_text roster row.part ∷ price_text row.price ∷ decimal row.size ∷ []

-- the fields of both sides, the bid's first
abbrev pub both_fields : Listing → Quoted → List (List ℕ)
both_fields roster quoted = side_fields roster quoted.bid ++ side_fields roster quoted.offer

-- a line: the version, the symbol, the market's word, the best bid, the best offer
abbrev pub line_record : Listing → ℕ → ℕ → Quoted → Record
line_record roster number sym quoted =
    decimal number ∷ symbol_text roster sym ∷ market_word (market_of quoted.bid quoted.offer) ∷ both_fields roster quoted

-- the line if what is quoted does not look like what was quoted before, and none if it does
abbrev pub line_of : Listing → ℕ → ℕ → Quoted → Quoted → List Record
line_of roster number sym was quoted = if are_alike was quoted then [] else line_record roster number sym quoted ∷ []

-- the line of a symbol from one version to another one
unfoldable pub line_between : Listing → Tape → Tape → ℕ → List Record
line_between roster before now sym =
    line_of roster (length now) sym (quoted_at (sizes_of roster) before sym) (quoted_at (sizes_of roster) now sym)

-- the symbols that are asked for, by place: one, or all of the roster
abbrev pub asked_for : Listing → Option ℕ → List ℕ
asked_for roster None = range_with_len 0 (length roster.syms)
asked_for roster (Some sym) = sym ∷ []

-- their lines from one version to another one
abbrev pub lines_between : Listing → Option ℕ → Tape → Tape → List Record
lines_between roster asked before now = flat_map (line_between roster before now) (asked_for roster asked)

-- the lines of the version after version n
abbrev pub lines_behind : Listing → Option ℕ → Tape → ℕ → List Record
lines_behind roster asked tape n = lines_between roster asked (version n tape) (version (n + 1) tape)

-- the header, then the lines of each version, the first to the last
abbrev pub stream_records : Listing → Option ℕ → Tape → List Record
stream_records roster asked tape = header ∷ flat_map (lines_behind roster asked tape) (range_with_len 0 (length tape))

unfoldable pub stream_text : Listing → Option ℕ → Tape → List ℕ
stream_text roster asked tape = text_of (stream_records roster asked tape)
