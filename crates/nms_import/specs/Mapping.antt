-- What a mapping makes of a row of a vendor's file: a change and its time, or the first cause why it makes none. This
-- product's own rule.
use Rattle.std.specs.Prelude.{ℕ, ◌+◌, ◌-◌, ◌*◌, ◌/◌, ◌%◌, ◌==◌, ◌&&◌, ◌||◌, codes, Bool, true, false, List, [], ◌∷◌, length, map}
use Rattle.std.specs.Prelude.{is_none, not, take, drop, position, slice_get, bit_and}
use Rattle.std.specs.Prelude.{nat_eq, nat_le, nat_lt, Option, Some, None, option_map, Result, Ok, Err, if◌then◌else◌}
use Rattle.std.specs.List.{list_all, list_any}
use Rattle.std.specs.Option.{option_map_or}
use Rattle.std.specs.Str.{bytes_eq}
use Rattle.nms_units.specs.Digits.{number_in, point_in}
use Rattle.nms_units.specs.Price.{price_number}
use Rattle.nms_units.specs.declared.TheConstants.{MOST_PRICE, MOST_SHARES}
use Rattle.nms_quote.specs.Content.{Content}
use Rattle.nms_quote.specs.Roster.{Listing, place_in}
use Rattle.nms_quote.specs.declared.change.Change.{Change}
use Rattle.nms_quote.specs.declared.change.Change.TheVariants as change
use Rattle.nms_quote.specs.declared.side_quote.QState.{QState}
use Rattle.nms_quote.specs.declared.side_quote.QState.TheVariants.{Automated, Manual}
use Rattle.nms_quote.specs.declared.side_quote.Side.{Side}
use Rattle.nms_quote.specs.declared.side_quote.Side.TheVariants.{Bid, Offer}
use Rattle.nms_lines.specs.Layout.{Record, field}
use Rattle.nms_lines.specs.Sides.{is_empty}
use Rattle.nms_import.specs.declared.cause.Cause.{Cause}
use Rattle.nms_import.specs.declared.cause.Cause.TheVariants as cause
use Rattle.nms_import.specs.declared.column.Column.{Column}
use Rattle.nms_import.specs.declared.column.Column.TheVariants as column
use Rattle.nms_import.specs.declared.column.Columns.{Columns}
use Rattle.nms_import.specs.declared.column.RowColumns.{RowColumns}
use Rattle.nms_import.specs.declared.column.RowColumns.TheVariants as rows
use Rattle.nms_import.specs.declared.entry.Entry.{Entry}
use Rattle.nms_import.specs.declared.meanings.Half.{Half}
use Rattle.nms_import.specs.declared.meanings.Half.TheVariants as half
use Rattle.nms_import.specs.declared.meanings.Meaning.{Meaning}
use Rattle.nms_import.specs.declared.meanings.Meaning.TheVariants as meaning
use Rattle.nms_import.specs.declared.meanings.Meanings.{Meanings}
use Rattle.nms_import.specs.declared.meanings.PriceUnit.{PriceUnit}
use Rattle.nms_import.specs.declared.meanings.PriceUnit.TheVariants as unit
use Rattle.nms_import.specs.declared.meanings.Renamed.{Renamed}
use Rattle.nms_import.specs.declared.meanings.Replaced.{Replaced}
use Rattle.nms_import.specs.declared.meanings.Said.{Said}
use Rattle.nms_import.specs.declared.meanings.SideWords.{SideWords}
use Rattle.nms_import.specs.declared.meanings.Word.{Word}
use Rattle.nms_import.specs.Causes.{is_skipped}
use Rattle.nms_import.specs.Times.{clock_of}

infixl 10 ◌>>=◌
-- the first cause, from left to right
abbrev pub ◌>>=◌ : {A B : Type 0} → Result A Cause → (A → Result B Cause) → Result B Cause
(Ok x) >>= f = f x
(Err e) >>= f = Err e

-- the cause, if something holds
abbrev pub stop_if : Bool → Cause → Result (Unit {0}) Cause
stop_if true why = Err why
stop_if false why = Ok tt

-- what is there, or the cause why nothing is
abbrev pub or_stop : {A : Type 0} → Option A → Cause → Result A Cause
or_stop None why = Err why
or_stop (Some x) why = Ok x

-- 1 if a number has any of some bits, 0 if it has none; another text as it is
abbrev pub bits_text : (bits : ℕ) → List ℕ → List ℕ
bits_text bits text = option_map_or (λ n. if bit_and n bits == 0 then codes "0" else codes "1") (number_in 9 text) text

-- the text of a column in a row: its field, the text that the mapping fixes, or whether its number has any of some bits
abbrev pub column_text : Column → Record → List ℕ
column_text (column.At place) row = field row place
column_text (column.Fixed text) row = text.items
column_text (column.Bits place bits) row = bits_text bits (field row place)

-- whether a text is one of the words
abbrev pub is_listed : List Word → List ℕ → Bool
is_listed words text = list_any (λ word. bytes_eq word.text.items text) words

-- ---- the side of a row

-- the side that a word names
abbrev pub side_named : (bids offers : List Word) → List ℕ → Option Side
side_named bids offers text =
    if is_listed bids text then Some Bid else (if is_listed offers text then Some Offer else None)

-- the side that a row names by a text, if each row has one side
abbrev pub side_in : Option SideWords → List ℕ → Option Side
side_in None text = None
side_in (Some words) text = side_named words.bids.items words.offers.items text

-- whether each row has one side, and a row's text for it names none
abbrev pub lacks_side : Option SideWords → List ℕ → Bool
lacks_side None text = false
lacks_side (Some words) text = is_none (side_named words.bids.items words.offers.items text)

-- the columns of a side; those of a bid, if the side is not known
abbrev pub columns_of_side : (bids offers : Columns) → Option Side → Columns
columns_of_side bids offers None = bids
columns_of_side bids offers (Some Bid) = bids
columns_of_side bids offers (Some Offer) = offers

-- the columns by which a row is read: those of its side, if each row has one
abbrev pub columns_of : RowColumns → Meanings → Record → Columns
columns_of (rows.Both columns) mapping line = columns
columns_of (rows.One bids offers) mapping line =
    columns_of_side bids offers (side_in mapping.sides (column_text bids.side line))

-- ---- prices and sizes

-- a number without the zeros after its first decimals; without its point too, if none are kept
abbrev pub is_zero : ℕ → Bool
is_zero c = c == 48

abbrev pub has_more_zeros : (decimals : ℕ) → List ℕ → (point : ℕ) → Bool
has_more_zeros decimals text point =
    nat_lt decimals (length text - point - 1) && list_all is_zero (drop (point + 1 + decimals) text)

abbrev pub cut_at : (decimals : ℕ) → List ℕ → (point : ℕ) → List ℕ
cut_at decimals text point =
    if has_more_zeros decimals text point then (if nat_eq decimals 0 then take point text else take (point + 1 + decimals) text)
    else text

abbrev pub without_zeros : (decimals : ℕ) → List ℕ → List ℕ
without_zeros decimals text = option_map_or (cut_at decimals text) (point_in text) text

-- the text for a number that is lacking, in any file
abbrev pub is_nan : List ℕ → Bool
is_nan text = bytes_eq text (codes "nan") || bytes_eq text (codes "NaN")

abbrev pub is_lacking : List ℕ → Bool
is_lacking text = is_empty text || is_nan text

-- hundred thousands, if there is no rest
abbrev pub hundred_thousands : Option ℕ → Option ℕ
hundred_thousands None = None
hundred_thousands (Some n) = if n % 100000 == 0 then Some (n / 100000) else None

-- a price in 1/10,000 dollar, which may be zero: dollars of which at most 4 decimals count, or a whole number of the unit
abbrev pub number_of : PriceUnit → List ℕ → Option ℕ
number_of unit.Dollars text = price_number (without_zeros 4 text)
number_of unit.TenThousandths text = number_in 11 text
number_of unit.Nanodollars text = hundred_thousands (number_in 19 text)

-- zero is no price
abbrev pub price_within : Side → Option ℕ → Result (Option ℕ) Cause
price_within side None = Err (cause.BadPrice side)
price_within side (Some n) =
    if n == 0 then Ok None else (if nat_le n MOST_PRICE then Ok (Some n) else Err (cause.BadPrice side))

-- a price, or none: an empty field, nan, a word for none, or zero
abbrev pub price_of : Meanings → Side → List ℕ → Result (Option ℕ) Cause
price_of mapping side text =
    if is_lacking text || is_listed mapping.no_price.items text then Ok None
    else price_within side (number_of mapping.price_unit text)

abbrev pub shares_within : Side → Option ℕ → Result ℕ Cause
shares_within side None = Err (cause.BadSize side)
shares_within side (Some n) = if nat_le n MOST_SHARES then Ok n else Err (cause.BadSize side)

-- the shares of a unit: those that the mapping says, or the round lot that the setup gives the symbol
abbrev pub unit_for : Meanings → Listing → (sym : ℕ) → ℕ
unit_for mapping roster sym =
    if mapping.own_lots then option_map_or (λ entry. entry.1) (slice_get roster.syms sym) 1 else mapping.size_unit

-- shares: the number times the shares of a unit; an empty field and nan are 0
abbrev pub shares_of : (unit : ℕ) → Side → List ℕ → Result ℕ Cause
shares_of unit side text =
    if is_lacking text then Ok 0
    else shares_within side (option_map (λ n. n * unit) (number_in 9 (without_zeros 0 text)))

abbrev pub quoted : Side → Option ℕ → ℕ → Result (Option Content) Cause
quoted side None shares = Err (cause.HalfSide side)
quoted side (Some price) shares = Ok (Some (record { price = price; shares = shares }))

-- no shares is no quotation; shares need a price
abbrev pub side_from : Side → Option ℕ → ℕ → Result (Option Content) Cause
side_from side price shares = if shares == 0 then Ok None else quoted side price shares

-- a side: its price and its shares
abbrev pub side_of : Meanings → (unit : ℕ) → Side → (price shares : List ℕ) → Result (Option Content) Cause
side_of mapping unit side price shares = do
  price ← price_of mapping side price
  shares ← shares_of unit side shares
  side_from side price shares

-- ---- times

-- a time of day
abbrev pub time_of : Meanings → List ℕ → Result ℕ Cause
time_of mapping text = or_stop (clock_of mapping.time_form mapping.zone text) cause.BadTime

-- ---- names

-- the roster's name for the file's word, if the mapping lists it
abbrev pub listed_name : List Renamed → Option ℕ → Option (List ℕ)
listed_name names None = None
listed_name names (Some place) = option_map (λ it. it.name.items) (slice_get names place)

-- the name that the mapping lists; else the word itself, if the mapping says so
abbrev pub name_or : Bool → List ℕ → Option (List ℕ) → Option (List ℕ)
name_or same word (Some name) = Some name
name_or same word None = if same then Some word else None

abbrev pub name_of : Meanings → List ℕ → Option (List ℕ)
name_of mapping word =
    name_or mapping.same word (listed_name mapping.names.items (position (λ it. bytes_eq it.word.items word) mapping.names.items))

abbrev pub place_named : Listing → Option (List ℕ) → Option ℕ
place_named roster None = None
place_named roster (Some name) = place_in roster.parts name

-- the participant of a word: many words may be one participant
abbrev pub participant_of : Meanings → Listing → List ℕ → Result ℕ Cause
participant_of mapping roster word = or_stop (place_named roster (name_of mapping word)) cause.UnknownParticipant

-- a byte, or the one that replaces it in a name of the roster
abbrev pub replaced : List Replaced → ℕ → ℕ
replaced [] c = c
replaced (it ∷ more) c = if c == it.from then it.to else replaced more c

-- the symbol of a text
abbrev pub symbol_in : Meanings → Listing → List ℕ → Option ℕ
symbol_in mapping roster text = place_in roster.syms (map (replaced mapping.replaced.items) text)

-- a symbol that is not on the roster is skipped or refused, as the mapping says
abbrev pub no_symbol : Meanings → Cause
no_symbol mapping = if mapping.skips_symbols then cause.OtherSymbol else cause.UnknownSymbol

-- ---- conditions

-- a word is one text and then another
abbrev pub is_joined : (first second word : List ℕ) → Bool
is_joined first second word =
    nat_le (length first) (length word) && bytes_eq (take (length first) word) first && bytes_eq (drop (length first) word) second

abbrev pub said_at : List Said → Option ℕ → Option Meaning
said_at said None = None
said_at said (Some place) = option_map (λ it. it.meaning) (slice_get said place)

-- what the two texts of a condition mean together
abbrev pub meaning_of : Meanings → (first second : List ℕ) → Result Meaning Cause
meaning_of mapping first second =
    or_stop (said_at mapping.said.items (position (λ it. is_joined first second it.word.items) mapping.said.items)) cause.UnknownCondition

-- no record says that only one side is manual: the row is refused, or both sides are in the state that the mapping chose
abbrev pub half_state : Half → Side → Result (Option QState) Cause
half_state half.Refuse side = Err (cause.OneSided side)
half_state half.Manual side = Ok (Some Manual)
half_state half.Automated side = Ok (Some Automated)

-- the state of both sides, None for no quotation
abbrev pub state_of : Meanings → Meaning → Result (Option QState) Cause
state_of mapping meaning.Nothing = Ok None
state_of mapping (meaning.Quoted state) = Ok (Some state)
state_of mapping (meaning.ManualSide side) = half_state mapping.half side

-- only one side is manual
abbrev pub is_one_sided : Meaning → Bool
is_one_sided meaning.Nothing = false
is_one_sided (meaning.Quoted state) = false
is_one_sided (meaning.ManualSide side) = true

-- ---- rows

-- both sides, as far as there is a quotation
abbrev pub change_of : Columns → Meanings → (unit : ℕ) → Record → (part sym : ℕ) → Option QState → Result Change Cause
change_of columns mapping unit line part sym None = Ok (change.Quote part sym Automated None None)
change_of columns mapping unit line part sym (Some state) = do
  bid ← side_of mapping unit Bid (column_text columns.bid line) (column_text columns.bid_size line)
  offer ← side_of mapping unit Offer (column_text columns.offer line) (column_text columns.offer_size line)
  Ok (change.Quote part sym state bid offer)

-- a row: a change with its time, or the first cause why it is none
abbrev pub entry_of : Columns → Meanings → Listing → Record → Result Entry Cause
entry_of columns mapping roster line = do
  inside ← stop_if (is_listed mapping.ends.items (field line 0)) cause.Trailer
  whole ← stop_if (nat_lt (length line) columns.width) cause.TooFewColumns
  wanted ← stop_if (is_listed mapping.skips.items (column_text columns.skip line)) cause.Listed
  time ← time_of mapping (column_text columns.time line)
  part ← participant_of mapping roster (column_text columns.participant line)
  sym ← or_stop (symbol_in mapping roster (column_text columns.symbol line)) (no_symbol mapping)
  means ← meaning_of mapping (column_text columns.source line) (column_text columns.condition line)
  state ← state_of mapping means
  sided ← stop_if (lacks_side mapping.sides (column_text columns.side line)) cause.UnknownSide
  said ← change_of columns mapping (unit_for mapping roster sym) line part sym state
  Ok (record { time = time; change = said; one_sided = is_one_sided means })

-- ---- what a refused row leaves

-- the row's time, or that of the last change if the row has none
abbrev pub time_or : (last : ℕ) → Result ℕ Cause → ℕ
time_or last (Err why) = last
time_or last (Ok time) = time

-- a participant shows nothing of a symbol, on either side
abbrev pub withdrawal : (time part sym : ℕ) → Entry
withdrawal time part sym = record { time = time; change = change.Quote part sym Automated None None; one_sided = false }

-- the same, if both are known
abbrev pub withdrawal_by : (time : ℕ) → Result ℕ Cause → Option ℕ → Option Entry
withdrawal_by time (Err why) sym = None
withdrawal_by time (Ok part) sym = option_map (withdrawal time part) sym

-- the withdrawal of what the row's participant shows of the row's symbol
abbrev pub withdrawal_of : Columns → Meanings → Listing → (last : ℕ) → Record → Option Entry
withdrawal_of columns mapping roster last line =
    withdrawal_by (time_or last (time_of mapping (column_text columns.time line)))
    (participant_of mapping roster (column_text columns.participant line))
    (symbol_in mapping roster (column_text columns.symbol line))

-- the change that a row leaves if it makes none: for a refused one a withdrawal, unless the mapping keeps the earlier quotation
abbrev pub left_by : Columns → Meanings → Listing → (last : ℕ) → Record → Cause → Option Entry
left_by columns mapping roster last line why =
    if mapping.withdraws && not (is_skipped why) then withdrawal_of columns mapping roster last line else None
