-- One row of a board, and what a share costs there, by numbers. This product's own rule.
use Rattle.std.specs.Prelude.{ℕ, ℤ, ◌==◌, ◌&&◌, nat_le, nat_lt, length, Option, Some, None, Result, Ok, Err, if◌then◌else◌}
use Rattle.nms_units.specs.declared.TheConstants.{MOST_PRICE}
use Rattle.nms_quote.specs.declared.order.OrderSide.{OrderSide}
use Rattle.nms_quote.specs.declared.side_quote.Side.{Side}
use Rattle.nms_quote.specs.declared.side_quote.Side.TheVariants.{Bid, Offer}
use Rattle.nms_board.specs.Ranking.{ranked_at}
use Rattle.nms_board.specs.Shown.{rows_held}
use Rattle.nms_board.specs.declared.row.Row.{Row}
use Rattle.nms_fee_book.specs.Fees.{unit_cost_of}
use Rattle.nms_calls.specs.Opened.{Opened, sym_fault}
use Rattle.nms_calls.specs.OrderSaid.{side_said}
use Rattle.nms_calls.specs.declared.TheConstants.{MOST_MILLIONTHS}
use Rattle.nms_calls.specs.declared.call_fault.CallFault.{CallFault}
use Rattle.nms_calls.specs.declared.call_fault.CallFault.TheVariants as fault

-- the side of a market of that number
abbrev pub market_side_said : ℕ → Option Side
market_side_said n = if n == 0 then Some Bid else (if n == 1 then Some Offer else None)

-- the side of a symbol that numbers say: the side is checked first
abbrev pub side_looked_at : Opened → ℕ → Option Side → Result Side CallFault
side_looked_at opened sym None = Err fault.Range
side_looked_at opened sym (Some side) = if nat_lt sym (length opened.settings.roster.syms) then Ok side else Err fault.NoSymbol

abbrev pub row_there : Option Row → Result Row CallFault
row_there None = Err fault.NoRow
row_there (Some row) = Ok row

abbrev pub ranked_on : Opened → ℕ → ℕ → Result Side CallFault → Result Row CallFault
ranked_on opened sym place (Err found) = Err found
ranked_on opened sym place (Ok side) = row_there (ranked_at side (rows_held opened.board sym side) place)

-- the row at a place of the rank order of the side that numbers say
abbrev pub ranked_said : Opened → ℕ → ℕ → ℕ → Result Row CallFault
ranked_said opened sym side place = ranked_on opened sym place (side_looked_at opened sym (market_side_said side))

-- what a share costs at a participant, for an order's side and a price: the participant is checked last
abbrev pub cost_at : Opened → ℕ → ℕ → Option OrderSide → Result ℤ CallFault
cost_at opened part price None = Err fault.Range
cost_at opened part price (Some side) =
    if nat_le 1 price && nat_le price MOST_PRICE
    then (if nat_lt part (length opened.settings.roster.parts) then Ok (unit_cost_of opened.settings.fees part side price) else Err
    fault.NoParticipant)
    else Err fault.Range

abbrev pub cost_on : Opened → ℕ → ℕ → ℕ → Result ℤ CallFault
cost_on opened part side price = cost_at opened part price (side_said side)

-- why a call with a price in 1/1,000,000 dollar for a symbol is refused: the symbol is checked last
abbrev pub through_fault : Opened → ℕ → ℕ → Option CallFault
through_fault opened sym millionths =
    if nat_le 1 millionths && nat_le millionths MOST_MILLIONTHS then sym_fault opened sym else Some fault.Range
