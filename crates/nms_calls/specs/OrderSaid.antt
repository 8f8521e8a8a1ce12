-- What the numbers of an order say. This product's own rule.
use Rattle.std.specs.Prelude.{ℕ, ◌==◌, ◌&&◌, ◌^◌, Bool, true, false, nat_le, nat_lt, length, Option, Some, None, Result, Ok, Err}
use Rattle.std.specs.Prelude.{if◌then◌else◌}
use Rattle.nms_units.specs.declared.TheConstants.{MOST_PRICE, MOST_SHARES}
use Rattle.nms_quote.specs.Roster.{Sizes}
use Rattle.nms_quote.specs.Terms.{Terms}
use Rattle.nms_quote.specs.declared.order.OrderSide.{OrderSide}
use Rattle.nms_quote.specs.declared.order.OrderSide.TheVariants as side
use Rattle.nms_calls.specs.declared.call_fault.CallFault.{CallFault}
use Rattle.nms_calls.specs.declared.call_fault.CallFault.TheVariants as fault
use Rattle.nms_calls.specs.declared.order_numbers.NmsOrder.{NmsOrder}

-- the side of that number
abbrev pub side_said : ℕ → Option OrderSide
side_said n = if n == 0 then Some side.Buy else (if n == 1 then Some side.Sell else None)

-- the flag of that number
abbrev pub flag_said : ℕ → Option Bool
flag_said n = if n == 0 then Some false else (if n == 1 then Some true else None)

-- whether shares and a limit are in their ranges
abbrev pub is_in_range : NmsOrder → Bool
is_in_range n = nat_le 1 n.shares && nat_le n.shares MOST_SHARES && nat_le 1 n.limit && nat_le n.limit MOST_PRICE

-- an order of a roster: participants that are on it, then the symbol
abbrev pub of_roster : Sizes → Terms → Result Terms CallFault
of_roster sizes order =
    if nat_lt order.self_help (2 ^ sizes.parts)
    then (if nat_lt order.sym (length sizes.lots) then Ok order else Err fault.NoSymbol)
    else Err fault.NoParticipant

abbrev pub terms_said : Sizes → NmsOrder → Option OrderSide → Option Bool → Result Terms CallFault
terms_said sizes n None manual = Err fault.Range
terms_said sizes n (Some side) None = Err fault.Range
terms_said sizes n (Some side) (Some manual) =
    if is_in_range n
    then of_roster sizes (record {
      side = side;
      sym = n.sym;
      shares = n.shares;
      limit = n.limit;
      manual = manual;
      self_help = n.self_help;
    })
    else Err fault.Range

-- the order that numbers say on a roster of those sizes, or the fault of least code: a number out of range comes first, then
-- the participants, then the symbol
abbrev pub order_said : Sizes → NmsOrder → Result Terms CallFault
order_said sizes n = terms_said sizes n (side_said n.side) (flag_said n.manual)
