-- The table of faults: which of them hold of a record, and where, for each kind. This product's own rule.
--
-- Several may hold. If L2 holds, missing fields read as empty. Then the later faults of these fields do not matter: L2
-- is answered.
use Rattle.std.specs.Prelude.{ℕ, not, Bool, length, Option, Some, None, is_none, is_some, option_map, if◌then◌else◌}
use Rattle.std.specs.Option.{option_or}
use Rattle.nms_quote.specs.Roster.{Listing, place_in}
use Rattle.nms_lines.specs.Faults.{wrong_at}
use Rattle.nms_lines.specs.FieldFaults.{has_no_name, is_foreign_lot, is_foreign_name, is_no_average, is_no_average_price, is_no_desk}
use Rattle.nms_lines.specs.FieldFaults.{is_no_flag, is_no_lot, is_no_price, is_no_shares}
use Rattle.nms_lines.specs.Fields.{side_named, state_named}
use Rattle.nms_lines.specs.Layout.{Record, field, is_count}
use Rattle.nms_lines.specs.Sides.{bad_price_at, bad_shares_at, half_side_at}
use Rattle.nms_lines.specs.Sources.{kind_in}
use Rattle.nms_lines.specs.declared.line.Kind.{Kind}
use Rattle.nms_lines.specs.declared.line.Kind.TheVariants as kind
use Rattle.nms_lines.specs.declared.line.Reading.{Reading}
use Rattle.nms_lines.specs.declared.line_fault.FaultPlace.{FaultPlace}
use Rattle.nms_lines.specs.declared.line_fault.FaultPlace.TheVariants as place
use Rattle.nms_lines.specs.declared.line_fault.LineFault.{LineFault}
use Rattle.nms_lines.specs.declared.line_fault.LineFault.TheVariants as fault

-- Q,part,sym,state,bid,bidshares,offer,offershares
abbrev pub quote_wrong : Listing → Reading → Record → LineFault → Option ℕ
quote_wrong roster from fields fault.UnknownParticipant = wrong_at 1 (is_none (place_in roster.parts (field fields 1)))
quote_wrong roster from fields fault.UnknownSymbol = wrong_at 2 (is_none (place_in roster.syms (field fields 2)))
quote_wrong roster from fields fault.BadState = wrong_at 3 (is_none (state_named (field fields 3)))
quote_wrong roster from fields fault.BadPrice = bad_price_at fields
quote_wrong roster from fields fault.BadShares = bad_shares_at fields
quote_wrong roster from fields fault.HalfSide = half_side_at fields
quote_wrong roster from fields fault.WrongFeed = wrong_at 1 (is_foreign_name roster from (field fields 1))
quote_wrong roster from fields _ = None

-- S,part,sym,state
abbrev pub state_wrong : Listing → Reading → Record → LineFault → Option ℕ
state_wrong roster from fields fault.UnknownParticipant = wrong_at 1 (is_none (place_in roster.parts (field fields 1)))
state_wrong roster from fields fault.UnknownSymbol = wrong_at 2 (is_none (place_in roster.syms (field fields 2)))
state_wrong roster from fields fault.BadState = wrong_at 3 (is_none (state_named (field fields 3)))
state_wrong roster from fields fault.WrongFeed = wrong_at 1 (is_foreign_name roster from (field fields 1))
state_wrong roster from fields _ = None

-- X,part
abbrev pub withdraw_wrong : Listing → Reading → Record → LineFault → Option ℕ
withdraw_wrong roster from fields fault.UnknownParticipant = wrong_at 1 (is_none (place_in roster.parts (field fields 1)))
withdraw_wrong roster from fields fault.WrongFeed = wrong_at 1 (is_foreign_name roster from (field fields 1))
withdraw_wrong roster from fields _ = None

-- R,sym,lot, or R,sym,AVG,price
abbrev pub lot_wrong : Listing → Reading → Record → LineFault → Option ℕ
lot_wrong roster from fields fault.UnknownSymbol = wrong_at 1 (is_none (place_in roster.syms (field fields 1)))
lot_wrong roster from fields fault.BadState = wrong_at 2 (is_no_average fields)
lot_wrong roster from fields fault.BadPrice = wrong_at 3 (is_no_average_price fields)
lot_wrong roster from fields fault.WrongFeed = wrong_at 0 (is_foreign_lot from)
lot_wrong roster from fields fault.BadLot = wrong_at 2 (is_no_lot fields)
lot_wrong roster from fields _ = None

-- L,desk
abbrev pub tell_wrong : Reading → Record → LineFault → Option ℕ
tell_wrong from fields fault.BadDesk = wrong_at 1 (is_no_desk from (field fields 1))
tell_wrong from fields _ = None

-- N,desk,sym
abbrev pub best_wrong : Listing → Reading → Record → LineFault → Option ℕ
best_wrong roster from fields fault.UnknownSymbol = wrong_at 2 (is_none (place_in roster.syms (field fields 2)))
best_wrong roster from fields fault.BadDesk = wrong_at 1 (is_no_desk from (field fields 1))
best_wrong roster from fields _ = None

-- E,desk,sym,price
abbrev pub through_wrong : Listing → Reading → Record → LineFault → Option ℕ
through_wrong roster from fields fault.UnknownSymbol = wrong_at 2 (is_none (place_in roster.syms (field fields 2)))
through_wrong roster from fields fault.BadPrice = wrong_at 3 (is_no_price (field fields 3))
through_wrong roster from fields fault.BadDesk = wrong_at 1 (is_no_desk from (field fields 1))
through_wrong roster from fields _ = None

-- O,desk,side,sym,shares,limit, then the flag M, then the participants named
abbrev pub sweep_wrong : Listing → Reading → Record → LineFault → Option ℕ
sweep_wrong roster from fields fault.UnknownParticipant = wrong_at 7 (has_no_name roster fields)
sweep_wrong roster from fields fault.UnknownSymbol = wrong_at 3 (is_none (place_in roster.syms (field fields 3)))
sweep_wrong roster from fields fault.BadState =
    option_or (wrong_at 2 (is_none (side_named (field fields 2)))) (wrong_at 6 (is_no_flag fields))
sweep_wrong roster from fields fault.BadPrice = wrong_at 5 (is_no_price (field fields 5))
sweep_wrong roster from fields fault.BadShares = wrong_at 4 (is_no_shares (field fields 4))
sweep_wrong roster from fields fault.BadDesk = wrong_at 1 (is_no_desk from (field fields 1))
sweep_wrong roster from fields _ = None

-- the faults of a kind's fields, each with the field that has it
abbrev pub kind_wrong : Listing → Reading → Record → Kind → LineFault → Option ℕ
kind_wrong roster from fields kind.Quote other = quote_wrong roster from fields other
kind_wrong roster from fields kind.State other = state_wrong roster from fields other
kind_wrong roster from fields kind.Withdraw other = withdraw_wrong roster from fields other
kind_wrong roster from fields kind.Lot other = lot_wrong roster from fields other
kind_wrong roster from fields kind.TakeOne other = None
kind_wrong roster from fields kind.TakeAll other = None
kind_wrong roster from fields kind.Publish other = None
kind_wrong roster from fields kind.Tell other = tell_wrong from fields other
kind_wrong roster from fields kind.Best other = best_wrong roster from fields other
kind_wrong roster from fields kind.Through other = through_wrong roster from fields other
kind_wrong roster from fields kind.Sweep other = sweep_wrong roster from fields other

-- the faults of a record of a kind that its source has; only L1 for a record of no such kind
abbrev pub record_wrong : Listing → Reading → Record → Option Kind → LineFault → Option FaultPlace
record_wrong roster from fields None fault.UnknownKind = Some (place.Field 0)
record_wrong roster from fields None _ = None
record_wrong roster from fields (Some kind) fault.UnknownKind = None
record_wrong roster from fields (Some kind) fault.FieldCount = if is_count kind (length fields) then None else Some place.Record
record_wrong roster from fields (Some kind) other = option_map place.Field (kind_wrong roster from fields kind other)

-- where a record has a fault, if it has it
abbrev pub fault_at : Listing → Reading → Record → LineFault → Option FaultPlace
fault_at roster from fields other = record_wrong roster from fields (kind_in from fields) other

-- whether a fault holds of a record
abbrev pub has_fault : Listing → Reading → Record → LineFault → Bool
has_fault roster from fields other = is_some (fault_at roster from fields other)
