-- What the numbers of a change say. This product's own rule.
use Rattle.std.specs.Prelude.{ℕ, ◌==◌, ◌&&◌, nat_le, nat_lt, length, Option, Some, None, Result, Ok, Err, if◌then◌else◌}
use Rattle.nms_units.specs.declared.TheConstants.{MOST_LOT, MOST_PRICE, MOST_SHARES}
use Rattle.nms_quote.specs.Content.{Content}
use Rattle.nms_quote.specs.Roster.{Sizes}
use Rattle.nms_quote.specs.declared.change.Change.{Change}
use Rattle.nms_quote.specs.declared.change.Change.TheVariants as change
use Rattle.nms_quote.specs.declared.side_quote.QState.{QState}
use Rattle.nms_quote.specs.declared.side_quote.QState.TheVariants as state
use Rattle.nms_calls.specs.declared.call_fault.CallFault.{CallFault}
use Rattle.nms_calls.specs.declared.call_fault.CallFault.TheVariants as fault
use Rattle.nms_calls.specs.declared.change_numbers.NmsChange.{NmsChange}

-- the state of that number
abbrev pub state_said : ℕ → Option QState
state_said n = if n == 0 then Some state.Automated else (if n == 1 then Some state.Manual else (if n == 2 then Some state.Halted else None))

-- a price and at least one share, each in its range
abbrev pub content_said : ℕ → ℕ → Option Content
content_said price shares =
    if nat_le 1 price && nat_le price MOST_PRICE && nat_le 1 shares && nat_le shares MOST_SHARES
    then Some (record { price = price; shares = shares }) else None

-- a side: 0 and 0 for no quotation, else a price and shares
abbrev pub quote_said : Option Content → Option (Option Content)
quote_said None = None
quote_said (Some content) = Some (Some content)

abbrev pub side_said : ℕ → ℕ → Option (Option Content)
side_said price shares = if price == 0 && shares == 0 then Some None else quote_said (content_said price shares)

-- a change of a participant and a symbol that have to be of the roster, the participant first
abbrev pub of_part : Sizes → ℕ → Result Change CallFault → Result Change CallFault
of_part sizes part change = if nat_lt part sizes.parts then change else Err fault.NoParticipant

abbrev pub of_sym : Sizes → ℕ → Change → Result Change CallFault
of_sym sizes sym change = if nat_lt sym (length sizes.lots) then Ok change else Err fault.NoSymbol

abbrev pub quotation_said : Sizes → NmsChange → Option QState → Option (Option Content) → Option (Option Content) → Result Change CallFault
quotation_said sizes n None bid offer = Err fault.Range
quotation_said sizes n (Some state) None offer = Err fault.Range
quotation_said sizes n (Some state) (Some bid) None = Err fault.Range
quotation_said sizes n (Some state) (Some bid) (Some offer) =
    of_part sizes n.part (of_sym sizes n.sym (change.Quote n.part n.sym state bid offer))

abbrev pub restating_said : Sizes → NmsChange → Option QState → Result Change CallFault
restating_said sizes n None = Err fault.Range
restating_said sizes n (Some state) = of_part sizes n.part (of_sym sizes n.sym (change.State n.part n.sym state))

abbrev pub lot_said : Sizes → NmsChange → Result Change CallFault
lot_said sizes n =
    if nat_le 1 n.lot && nat_le n.lot MOST_LOT then of_sym sizes n.sym (change.Lot n.sym n.lot) else Err fault.Range

-- the change that numbers say on a roster of those sizes, or the fault of least code: a number out of range comes first, then
-- the participant, then the symbol
abbrev pub change_said : Sizes → NmsChange → Result Change CallFault
change_said sizes n =
    if n.kind == 0
    then quotation_said sizes n (state_said n.state) (side_said n.bid_price n.bid_shares) (side_said n.offer_price n.offer_shares)
    else (if n.kind == 1 then restating_said sizes n (state_said n.state)
    else (if n.kind == 2 then of_part sizes n.part (Ok (change.Withdraw n.part))
    else (if n.kind == 3 then lot_said sizes n else Err fault.Range)))
