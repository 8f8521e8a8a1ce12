-- What a mapping makes of a row of a vendor's trades: an execution, or the first cause why it makes none. This product's own
-- rule.
use Rattle.std.specs.Prelude.{ℕ, ◌*◌, ◌/◌, ◌%◌, ◌==◌, ◌&&◌, ◌||◌, Bool, true, false, not, List, length}
use Rattle.std.specs.Prelude.{nat_eq, nat_le, nat_lt, Option, Some, None, option_map, Result, Ok, Err, if◌then◌else◌}
use Rattle.std.specs.Fmt.{decimal}
use Rattle.std.specs.List.{list_all, list_any}
use Rattle.nms_units.specs.Digits.{number_in}
use Rattle.nms_quote.specs.Roster.{Listing, place_in}
use Rattle.nms_lines.specs.Layout.{Record, field}
use Rattle.nms_lines.specs.Numbers.{above_zero, shares_number}
use Rattle.nms_lines.specs.Sides.{is_empty}
use Rattle.nms_import.specs.Mapping.{column_text, is_listed, name_of, symbol_in, without_zeros}
use Rattle.nms_import.specs.Times.{clock_of, day_of}
use Rattle.nms_import.specs.declared.column.Column.{Column}
use Rattle.nms_import.specs.declared.meanings.Meanings.{Meanings}
use Rattle.nms_import.specs.declared.meanings.PriceUnit.{PriceUnit}
use Rattle.nms_import.specs.declared.meanings.PriceUnit.TheVariants as unit
use Rattle.nms_trades.specs.FinePrice.{fine_number}
use Rattle.nms_trades.specs.Reading.{is_name}
use Rattle.nms_trades.specs.declared.millionths.TheConstants.{MOST_MILLIONTHS}
use Rattle.nms_trades.specs.declared.execution.Deal.{Deal}
use Rattle.nms_trades.specs.declared.execution.Deal.TheVariants as deal
use Rattle.nms_import_trades.specs.declared.claim.Claim.{Claim}
use Rattle.nms_import_trades.specs.declared.claim.Flag.{Flag}
use Rattle.nms_import_trades.specs.declared.claim.Flag.TheVariants as flag
use Rattle.nms_import_trades.specs.declared.trade.Trade.{Trade}
use Rattle.nms_import_trades.specs.declared.trade_cause.TradeCause.{TradeCause}
use Rattle.nms_import_trades.specs.declared.trade_cause.TradeCause.TheVariants as cause
use Rattle.nms_import_trades.specs.declared.trade_columns.TradeColumns.{TradeColumns}
use Rattle.nms_import_trades.specs.declared.trade_meanings.TradeMeanings.{TradeMeanings}

infixl 10 ◌>>=◌
-- the first cause, from left to right
abbrev pub ◌>>=◌ : {A B : Type 0} → Result A TradeCause → (A → Result B TradeCause) → Result B TradeCause
(Ok x) >>= f = f x
(Err e) >>= f = Err e

-- the cause, if something holds
abbrev pub stop_if : Bool → TradeCause → Result (Unit {0}) TradeCause
stop_if true why = Err why
stop_if false why = Ok tt

-- what is there, or the cause why nothing is
abbrev pub or_stop : {A : Type 0} → Option A → TradeCause → Result A TradeCause
or_stop None why = Err why
or_stop (Some x) why = Ok x

-- ---- names

-- the name of an execution: the row's number if no column has one
abbrev pub id_text : Option Column → ℕ → Record → List ℕ
id_text None number row = decimal number
id_text (Some column) number row = column_text column row

-- whether it is a name, as `trades` reads one
abbrev pub has_name : Option Column → Record → Bool
has_name None row = true
has_name (Some column) row = is_name (column_text column row)

-- a participant of the roster
abbrev pub venue_found : Option ℕ → Result (Option ℕ) TradeCause
venue_found None = Err cause.UnknownParticipant
venue_found (Some part) = Ok (Some part)

-- where it was executed; a word for no name means off an exchange
abbrev pub venue_named : Listing → Option (List ℕ) → Result (Option ℕ) TradeCause
venue_named roster None = Err cause.UnknownParticipant
venue_named roster (Some name) = if is_empty name then Ok None else venue_found (place_in roster.parts name)

abbrev pub venue_of : TradeMeanings → Listing → List ℕ → Result (Option ℕ) TradeCause
venue_of mapping roster word = venue_named roster (name_of mapping.common word)

-- a symbol that is not on the roster is skipped or refused, as the mapping says
abbrev pub no_symbol : Meanings → TradeCause
no_symbol mapping = if mapping.skips_symbols then cause.OtherSymbol else cause.UnknownSymbol

-- ---- prices

-- thousands, if there is no rest
abbrev pub thousands : Option ℕ → Option ℕ
thousands None = None
thousands (Some n) = if n % 1000 == 0 then Some (n / 1000) else None

-- a price that an execution may have
abbrev pub in_range : Option ℕ → Option ℕ
in_range None = None
in_range (Some n) = if nat_le n MOST_MILLIONTHS then above_zero (Some n) else None

-- a price in 1/1,000,000 dollar, above zero: dollars of which at most 6 decimals count, or a whole number of the unit
abbrev pub millionths_of : PriceUnit → List ℕ → Option ℕ
millionths_of unit.Dollars text = above_zero (fine_number (without_zeros 6 text))
millionths_of unit.TenThousandths text = above_zero (option_map (λ n. n * 100) (number_in 11 text))
millionths_of unit.Nanodollars text = in_range (thousands (number_in 19 text))

-- ---- sides

-- whether it bought or sold; an empty text says neither
abbrev pub deal_of : TradeMeanings → List ℕ → Result (Option Deal) TradeCause
deal_of mapping text =
    if is_empty text || is_listed mapping.neither.items text then Ok None
    else (if is_listed mapping.bought.items text then Ok (Some deal.Bought)
    else (if is_listed mapping.sold.items text then Ok (Some deal.Sold) else Err cause.UnknownSide))

-- ---- conditions: each byte of the text is one

-- whether a byte is one of the letters
abbrev pub has_letter : List ℕ → ℕ → Bool
has_letter letters c = list_any (λ letter. letter == c) letters

-- whether a letter claims a flag
abbrev pub is_claim : List Claim → ℕ → Bool
is_claim claims c = list_any (λ it. has_letter it.letters.items c) claims

-- whether the mapping lists a letter
abbrev pub is_known : TradeMeanings → ℕ → Bool
is_known mapping c = has_letter mapping.nothing.items c || is_claim mapping.claims.items c

-- whether a letter of a condition says that its row is no trade
abbrev pub is_no_trade : TradeMeanings → List ℕ → Bool
is_no_trade mapping condition = list_any (has_letter mapping.no_trade.items) condition

-- the mapping lists words of rows to keep, and this is none of them
abbrev pub is_unknown_word : TradeMeanings → List ℕ → Bool
is_unknown_word mapping text = not (length mapping.kept.items == 0) && not (is_listed mapping.kept.items text)

-- whether a trade is marked exempt; an empty text says that it is not
abbrev pub mark_of : TradeMeanings → List ℕ → Result Bool TradeCause
mark_of mapping text =
    if is_empty text || is_listed mapping.unmarked.items text then Ok false
    else (if is_listed mapping.marked.items text then Ok true else Err cause.UnknownMark)

-- whether a letter of the condition claims a flag
abbrev pub claims_it : List ℕ → Claim → Bool
claims_it condition it = list_any (has_letter it.letters.items) condition

-- whether a flag names a reason for an exemption; the hours and the sequence are none
abbrev pub is_reason : Flag → Bool
is_reason flag.NotRegular = true
is_reason flag.SinglePriced = true
is_reason flag.Sweep = true
is_reason flag.Swept = true
is_reason flag.Benchmark = true
is_reason flag.Stopped = true
is_reason flag.Contingent = true
is_reason flag.Exempt = false
is_reason flag.OutsideHours = false
is_reason flag.OutOfSequence = false

abbrev pub is_exempt : Flag → Bool
is_exempt flag.NotRegular = false
is_exempt flag.SinglePriced = false
is_exempt flag.Sweep = false
is_exempt flag.Swept = false
is_exempt flag.Benchmark = false
is_exempt flag.Stopped = false
is_exempt flag.Contingent = false
is_exempt flag.Exempt = true
is_exempt flag.OutsideHours = false
is_exempt flag.OutOfSequence = false

-- marked exempt, and no letter says why
abbrev pub lacks_reason : List Claim → List ℕ → Bool → Bool
lacks_reason claims condition marked = marked && not (list_any (λ it. is_reason it.flag && claims_it condition it) claims)

-- whether a flag is written
abbrev pub is_claimed : List ℕ → Bool → Claim → Bool
is_claimed condition unexplained it = claims_it condition it || is_exempt it.flag && unexplained

-- ---- rows

-- a row: an execution, or the first cause why it is none
abbrev pub trade_of : TradeColumns → TradeMeanings → Listing → Record → Result Trade TradeCause
trade_of columns mapping roster line = do
  inside ← stop_if (is_listed mapping.common.ends.items (field line 0)) cause.Trailer
  whole ← stop_if (nat_lt (length line) columns.width) cause.TooFewColumns
  wanted ← stop_if (is_listed mapping.common.skips.items (column_text columns.skip line)) cause.Listed
  listed ← stop_if (is_unknown_word mapping (column_text columns.skip line)) cause.UnknownWord
  traded ← stop_if (is_no_trade mapping (column_text columns.condition line)) cause.NoTrade
  named ← stop_if (not (has_name columns.id line)) cause.BadName
  time ← or_stop (clock_of mapping.common.time_form mapping.common.zone (column_text columns.time line)) cause.BadTime
  part ← venue_of mapping roster (column_text columns.participant line)
  sym ← or_stop (symbol_in mapping.common roster (column_text columns.symbol line)) (no_symbol mapping.common)
  price ← or_stop (millionths_of mapping.common.price_unit (column_text columns.price line)) cause.BadPrice
  shares ← or_stop (above_zero (shares_number (without_zeros 0 (column_text columns.shares line)))) cause.BadShares
  dealt ← deal_of mapping (column_text columns.side line)
  known ← stop_if (not (list_all (is_known mapping) (column_text columns.condition line))) cause.UnknownCondition
  marked ← mark_of mapping (column_text columns.exempt line)
  Ok (record {
    time = time;
    day = day_of mapping.common.time_form mapping.common.zone (column_text columns.time line);
    part = part;
    sym = sym;
    millionths = price;
    shares = shares;
    deal = dealt;
    marked = marked;
  })

-- ---- days: a time of day says nothing of the date, so all executions have to be of one

-- two dates that are not the same
abbrev pub is_other : Option ℕ → Option ℕ → Bool
is_other (Some day) (Some other) = not (nat_eq day other)
is_other (Some day) None = false
is_other None other = false

-- a row of another day is refused
abbrev pub only_on : Option ℕ → Result Trade TradeCause → Result Trade TradeCause
only_on day (Ok trade) = if is_other day trade.day then Err cause.OtherDay else Ok trade
only_on day (Err why) = Err why

-- what a row makes after executions of a day
abbrev pub made_on : Option ℕ → TradeColumns → TradeMeanings → Listing → Record → Result Trade TradeCause
made_on day columns mapping roster row = only_on day (trade_of columns mapping roster row)

-- the first day that is known
abbrev pub first_of : Option ℕ → Option ℕ → Option ℕ
first_of (Some day) other = Some day
first_of None other = other

-- the day of the first execution, after what a row makes
abbrev pub day_after : Option ℕ → Result Trade TradeCause → Option ℕ
day_after day (Ok trade) = first_of day trade.day
day_after day (Err why) = day
