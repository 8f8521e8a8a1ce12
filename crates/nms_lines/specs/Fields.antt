-- What one field says, or its fault and its place. This product's own rule.
use Rattle.std.specs.Prelude.{ℕ, ◌==◌, Bool, true, false, List, [], length, codes, Option, Some, None, Result, Ok, Err, if◌then◌else◌}
use Rattle.std.specs.Option.{ok_or}
use Rattle.nms_units.specs.Price.{price_number}
use Rattle.nms_units.specs.Digits.{number_in}
use Rattle.nms_units.specs.Lot.{average_lot}
use Rattle.nms_quote.specs.Roster.{Listing, place_in}
use Rattle.nms_quote.specs.declared.side_quote.QState.{QState}
use Rattle.nms_quote.specs.declared.side_quote.QState.TheVariants as state
use Rattle.nms_quote.specs.declared.order.OrderSide.{OrderSide}
use Rattle.nms_quote.specs.declared.order.OrderSide.TheVariants as side
use Rattle.nms_lines.specs.Faults.{◌>>=◌, at}
use Rattle.nms_lines.specs.Layout.{Record, field, has_average, is_text}
use Rattle.nms_lines.specs.Named.{named_at}
use Rattle.nms_lines.specs.Numbers.{above_zero, below, lot_number, shares_number}
use Rattle.nms_lines.specs.declared.line_fault.LineFault.TheVariants as fault
use Rattle.nms_lines.specs.declared.line_fault.PlacedFault.{PlacedFault}

-- the participant that a field names
abbrev pub part_at : Listing → Record → ℕ → Result ℕ PlacedFault
part_at roster fields place = ok_or (place_in roster.parts (field fields place)) (at fault.UnknownParticipant place)

-- the symbol that a field names
abbrev pub symbol_at : Listing → Record → ℕ → Result ℕ PlacedFault
symbol_at roster fields place = ok_or (place_in roster.syms (field fields place)) (at fault.UnknownSymbol place)

-- the state that a letter names
abbrev pub state_named : List ℕ → Option QState
state_named text =
    if is_text (codes "A") text then Some state.Automated
    else (if is_text (codes "M") text then Some state.Manual
    else (if is_text (codes "H") text then Some state.Halted else None))

-- the state that a field names
abbrev pub state_at : Record → ℕ → Result QState PlacedFault
state_at fields place = ok_or (state_named (field fields place)) (at fault.BadState place)

-- the side of an order that a letter names
abbrev pub side_named : List ℕ → Option OrderSide
side_named text =
    if is_text (codes "B") text then Some side.Buy
    else (if is_text (codes "S") text then Some side.Sell else None)

-- the side that a field names
abbrev pub side_at : Record → ℕ → Result OrderSide PlacedFault
side_at fields place = ok_or (side_named (field fields place)) (at fault.BadState place)

-- the participants that an order names under self-help, by the names in its eighth field, if it has one
abbrev pub self_help_in : Listing → Record → Result ℕ PlacedFault
self_help_in roster fields = ok_or (named_at 7 roster fields) (at fault.UnknownParticipant 7)

-- whether manual quotations may be traded with: the flag is `M`, or empty
abbrev pub flag_named : List ℕ → Option Bool
flag_named text = if is_text (codes "M") text then Some true else (if is_text [] text then Some false else None)

-- whether an order allows manual quotations: the seventh field is `M`, or empty before an eighth field. A record
-- without a seventh field does not
abbrev pub flag_of : Record → Option Bool
flag_of fields =
    if length fields == 7
    then (if is_text (codes "M") (field fields 6) then Some true else None)
    else flag_named (field fields 6)

-- that, or the fault
abbrev pub flag_in : Record → Result Bool PlacedFault
flag_in fields = ok_or (flag_of fields) (at fault.BadState 6)

-- a price that an order, a trade-through test or a round lot needs
abbrev pub price_at : Record → ℕ → Result ℕ PlacedFault
price_at fields place = ok_or (above_zero (price_number (field fields place))) (at fault.BadPrice place)

-- the shares of an order
abbrev pub shares_at : Record → ℕ → Result ℕ PlacedFault
shares_at fields place = ok_or (above_zero (shares_number (field fields place))) (at fault.BadShares place)

-- an average closing price
abbrev pub average_price_in : Record → Result (Option ℕ) PlacedFault
average_price_in fields = do
  price ← price_at fields 3
  Ok (Some price)

-- the average price of a round lot, after the word `AVG`, if the lot is given by one
abbrev pub average_in : Record → Result (Option ℕ) PlacedFault
average_in fields =
    if has_average fields
    then (if is_text (codes "AVG") (field fields 2) then average_price_in fields else Err (at fault.BadState 2))
    else Ok None

-- the round lot that an average closing price gives, else the one that the third field writes
abbrev pub lot_in : Record → Option ℕ → Result ℕ PlacedFault
lot_in fields None = ok_or (lot_number (field fields 2)) (at fault.BadLot 2)
lot_in fields (Some average) = Ok (average_lot average)

-- a desk: 1 or 2 digits, below the number of desks
abbrev pub desk_at : ℕ → Record → ℕ → Result ℕ PlacedFault
desk_at desks fields place = ok_or (below desks (number_in 2 (field fields place))) (at fault.BadDesk place)
