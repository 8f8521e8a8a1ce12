-- What is written of the rows of a vendor's trades: `D,id,sym,price,shares,side,when,part,flags` for each that makes an
-- execution. This product's own rule.
use Rattle.std.specs.Prelude.{ℕ, ◌+◌, List, [], ◌∷◌, ◌++◌, codes, drop, filter, flat_map, Bool, Option, Some, None}
use Rattle.std.specs.Prelude.{Result, Ok, Err}
use Rattle.std.specs.Fmt.{decimal}
use Rattle.nms_quote.specs.Roster.{Listing, part_text, symbol_text}
use Rattle.nms_lines.specs.Layout.{Record}
use Rattle.nms_lines.specs.Text.{text_of}
use Rattle.nms_import.specs.Imported.{fifteen_digits}
use Rattle.nms_import.specs.Mapping.{column_text}
use Rattle.nms_trades.specs.FinePrice.{fine_text}
use Rattle.nms_trades.specs.declared.execution.Deal.{Deal}
use Rattle.nms_trades.specs.declared.execution.Deal.TheVariants as deal
use Rattle.nms_import_trades.specs.TradeRow.{day_after, id_text, is_claimed, lacks_reason, made_on}
use Rattle.nms_import_trades.specs.declared.claim.Claim.{Claim}
use Rattle.nms_import_trades.specs.declared.claim.Flag.{Flag}
use Rattle.nms_import_trades.specs.declared.claim.Flag.TheVariants as flag
use Rattle.nms_import_trades.specs.declared.trade.Trade.{Trade}
use Rattle.nms_import_trades.specs.declared.trade_cause.TradeCause.{TradeCause}
use Rattle.nms_import_trades.specs.declared.trade_columns.TradeColumns.{TradeColumns}
use Rattle.nms_import_trades.specs.declared.trade_meanings.TradeMeanings.{TradeMeanings}
use Rattle.nms_import_trades.specs.declared.trade_tally.TradeTally.{TradeTally}

-- the side: B, S or nothing
abbrev pub deal_text : Option Deal → List ℕ
deal_text None = []
deal_text (Some deal.Bought) = codes "B"
deal_text (Some deal.Sold) = codes "S"

-- where it was executed: nothing off an exchange
abbrev pub venue_text : Listing → Option ℕ → List ℕ
venue_text roster None = []
venue_text roster (Some part) = part_text roster part

-- the letter of a flag, as `trades` reads it
abbrev pub flag_letter : Flag → ℕ
flag_letter flag.NotRegular = 67
flag_letter flag.SinglePriced = 79
flag_letter flag.Sweep = 73
flag_letter flag.Swept = 74
flag_letter flag.Benchmark = 75
flag_letter flag.Stopped = 80
flag_letter flag.Contingent = 81
flag_letter flag.Exempt = 69
flag_letter flag.OutsideHours = 84
flag_letter flag.OutOfSequence = 90

-- the letters of the flags that are written, each after a plus
abbrev pub plus_flags : List Claim → List ℕ → Bool → List ℕ
plus_flags claims condition unexplained =
    flat_map (λ it. 43 ∷ flag_letter it.flag ∷ []) (filter (is_claimed condition unexplained) claims)

-- the same without the first plus
abbrev pub flags_text : List Claim → List ℕ → Bool → List ℕ
flags_text claims condition marked = drop 1 (plus_flags claims condition (lacks_reason claims condition marked))

-- the record of an execution that the row of a number makes
abbrev pub execution_record : TradeColumns → TradeMeanings → Listing → ℕ → Record → Trade → Record
execution_record columns mapping roster number row trade =
    codes "D" ∷ id_text columns.id number row ∷ symbol_text roster trade.sym ∷ fine_text trade.millionths ∷ decimal trade.shares
    ∷ deal_text trade.deal ∷ (64 ∷ fifteen_digits trade.time) ∷ venue_text roster trade.part
    ∷ flags_text mapping.claims.items (column_text columns.condition row) trade.marked ∷ []

-- one record, or none
abbrev pub record_in : TradeColumns → TradeMeanings → Listing → ℕ → Record → Result Trade TradeCause → List Record
record_in columns mapping roster number row (Ok trade) = execution_record columns mapping roster number row trade ∷ []
record_in columns mapping roster number row (Err why) = []

-- the records of rows, in order; the first of the rows has this number; executions before them were of this day
abbrev pub records_from : TradeColumns → TradeMeanings → Listing → Option ℕ → ℕ → List Record → List Record
records_from columns mapping roster day number [] = []
records_from columns mapping roster day number (row ∷ rows) =
    record_in columns mapping roster number row (made_on day columns mapping roster row)
    ++ records_from columns mapping roster (day_after day (made_on day columns mapping roster row)) (number + 1) rows

-- the day of the executions after them
abbrev pub day_from : TradeColumns → TradeMeanings → Listing → Option ℕ → List Record → Option ℕ
day_from columns mapping roster day [] = day
day_from columns mapping roster day (row ∷ rows) =
    day_from columns mapping roster (day_after day (made_on day columns mapping roster row)) rows

-- their text
abbrev pub executions_text : TradeColumns → TradeMeanings → Listing → Option ℕ → ℕ → List Record → List ℕ
executions_text columns mapping roster day number rows = text_of (records_from columns mapping roster day number rows)

-- the rows that were refused, of all causes
abbrev pub refused_in : TradeTally → ℕ
refused_in tally =
    tally.too_few_columns + tally.bad_name + tally.bad_time + tally.unknown_participant + tally.unknown_symbol + tally.bad_price
    + tally.bad_shares + tally.unknown_side + tally.unknown_condition + tally.unknown_mark
    + tally.unknown_word + tally.other_day

-- the rows that were skipped, of all causes
abbrev pub skipped_in : TradeTally → ℕ
skipped_in tally = tally.trailer + tally.listed + tally.no_trade + tally.other_symbol

-- all rows
abbrev pub rows_in : TradeTally → ℕ
rows_in tally = tally.executions + refused_in tally + skipped_in tally
