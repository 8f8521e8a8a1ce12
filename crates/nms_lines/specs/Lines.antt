-- The reading of a record, field by field: the line that it is, or the first fault that is met and where it is met. This
-- product's own rule. Laws says that this is the fault of the least number that holds, and its place in the table of faults.
use Rattle.std.specs.Prelude.{not, length, Result, Ok}
use Rattle.std.specs.Option.{ok_or}
use Rattle.nms_quote.specs.Roster.{Listing, feed_at}
use Rattle.nms_quote.specs.declared.change.Change.TheVariants as change
use Rattle.nms_lines.specs.Faults.{◌>>=◌, at, of_record, refuse_if, unplaced}
use Rattle.nms_lines.specs.FieldFaults.{is_foreign_lot}
use Rattle.nms_lines.specs.Fields.{average_in, desk_at, flag_in, lot_in, part_at, price_at, self_help_in, shares_at, side_at, state_at}
use Rattle.nms_lines.specs.Fields.{symbol_at}
use Rattle.nms_lines.specs.Layout.{Record, is_count}
use Rattle.nms_lines.specs.Sides.{sides_in}
use Rattle.nms_lines.specs.Sources.{desks_of, is_foreign, kind_in}
use Rattle.nms_lines.specs.declared.line.Kind.{Kind}
use Rattle.nms_lines.specs.declared.line.Kind.TheVariants as kind
use Rattle.nms_lines.specs.declared.line.Line.{Line}
use Rattle.nms_lines.specs.declared.line.Line.TheVariants as line
use Rattle.nms_lines.specs.declared.line.Reading.{Reading}
use Rattle.nms_lines.specs.declared.line_fault.LineFault.{LineFault}
use Rattle.nms_lines.specs.declared.line_fault.LineFault.TheVariants as fault
use Rattle.nms_lines.specs.declared.line_fault.PlacedFault.{PlacedFault}

-- Q,part,sym,state,bid,bidshares,offer,offershares
abbrev pub quote_reading : Listing → Reading → Record → Result Line PlacedFault
quote_reading roster from fields = do
  part ← part_at roster fields 1
  sym ← symbol_at roster fields 2
  state ← state_at fields 3
  sides ← sides_in fields
  feed ← refuse_if (is_foreign from (feed_at roster part)) (at fault.WrongFeed 1)
  Ok (line.Change (change.Quote part sym state sides.0 sides.1))

-- S,part,sym,state
abbrev pub state_reading : Listing → Reading → Record → Result Line PlacedFault
state_reading roster from fields = do
  part ← part_at roster fields 1
  sym ← symbol_at roster fields 2
  state ← state_at fields 3
  feed ← refuse_if (is_foreign from (feed_at roster part)) (at fault.WrongFeed 1)
  Ok (line.Change (change.State part sym state))

-- X,part
abbrev pub withdraw_reading : Listing → Reading → Record → Result Line PlacedFault
withdraw_reading roster from fields = do
  part ← part_at roster fields 1
  feed ← refuse_if (is_foreign from (feed_at roster part)) (at fault.WrongFeed 1)
  Ok (line.Change (change.Withdraw part))

-- R,sym,lot, or R,sym,AVG,price. The lot is checked last; a lot on another feed than the first is a fault of the kind
abbrev pub lot_reading : Listing → Reading → Record → Result Line PlacedFault
lot_reading roster from fields = do
  sym ← symbol_at roster fields 1
  average ← average_in fields
  feed ← refuse_if (is_foreign_lot from) (at fault.WrongFeed 0)
  lot ← lot_in fields average
  Ok (line.Change (change.Lot sym lot))

-- L,desk
abbrev pub tell_reading : Reading → Record → Result Line PlacedFault
tell_reading from fields = do
  desk ← desk_at (desks_of from) fields 1
  Ok (line.Tell desk)

-- N,desk,sym
abbrev pub best_reading : Listing → Reading → Record → Result Line PlacedFault
best_reading roster from fields = do
  sym ← symbol_at roster fields 2
  desk ← desk_at (desks_of from) fields 1
  Ok (line.Best desk sym)

-- E,desk,sym,price
abbrev pub through_reading : Listing → Reading → Record → Result Line PlacedFault
through_reading roster from fields = do
  sym ← symbol_at roster fields 2
  price ← price_at fields 3
  desk ← desk_at (desks_of from) fields 1
  Ok (line.Through desk sym price)

-- O,desk,side,sym,shares,limit, then the flag M, then the participants named
abbrev pub sweep_reading : Listing → Reading → Record → Result Line PlacedFault
sweep_reading roster from fields = do
  self_help ← self_help_in roster fields
  sym ← symbol_at roster fields 3
  side ← side_at fields 2
  manual ← flag_in fields
  limit ← price_at fields 5
  shares ← shares_at fields 4
  desk ← desk_at (desks_of from) fields 1
  Ok (line.Sweep desk (record { side = side; sym = sym; shares = shares; limit = limit; manual = manual; self_help = self_help }))

-- the fields of a record of the kind, with the number that the kind has
abbrev pub kind_reading : Listing → Reading → Record → Kind → Result Line PlacedFault
kind_reading roster from fields kind.Quote = quote_reading roster from fields
kind_reading roster from fields kind.State = state_reading roster from fields
kind_reading roster from fields kind.Withdraw = withdraw_reading roster from fields
kind_reading roster from fields kind.Lot = lot_reading roster from fields
kind_reading roster from fields kind.TakeOne = Ok line.TakeOne
kind_reading roster from fields kind.TakeAll = Ok line.TakeAll
kind_reading roster from fields kind.Publish = Ok line.Publish
kind_reading roster from fields kind.Tell = tell_reading from fields
kind_reading roster from fields kind.Best = best_reading roster from fields
kind_reading roster from fields kind.Through = through_reading roster from fields
kind_reading roster from fields kind.Sweep = sweep_reading roster from fields

-- what a record says: its line, or a fault and where it is
abbrev pub placed_reading : Listing → Reading → Record → Result Line PlacedFault
placed_reading roster from fields = do
  kind ← ok_or (kind_in from fields) (at fault.UnknownKind 0)
  count ← refuse_if (not (is_count kind (length fields))) (of_record fault.FieldCount)
  kind_reading roster from fields kind

-- its line, or a fault
abbrev pub reading : Listing → Reading → Record → Result Line LineFault
reading roster from fields = unplaced (placed_reading roster from fields)
