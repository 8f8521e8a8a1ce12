-- A file of orders: what a line of it says, the orders of its lines, and the first line that is refused. This
-- product's own rule.
use Rattle.std.specs.Prelude.{ℕ, ⊤, ◌≡◌, ◌<◌, All, List, length, Option, Result, Ok, Err}
use Rattle.nms_fees.specs.Settings.{Settings}
use Rattle.nms_lines.specs.Faults.{◌>>=◌}
use Rattle.nms_lines.specs.Layout.{Record}
use Rattle.nms_lines.specs.Lines.{reading}
use Rattle.nms_lines.specs.Named.{AreBelow}
use Rattle.nms_lines.specs.Records.{AreAllRecords}
use Rattle.nms_lines.specs.declared.line.Line.{Line}
use Rattle.nms_lines.specs.declared.line.Line.TheVariants as line
use Rattle.nms_lines.specs.declared.line.Reading.TheVariants as source
use Rattle.nms_lines.specs.declared.line_fault.LineFault.{LineFault}
use Rattle.nms_lines.specs.declared.line_fault.LineFault.TheVariants as line_fault
use Rattle.nms_quote.specs.declared.desk_order.DeskOrder.{DeskOrder}
use Rattle.nms_files.specs.LineFile.{AreSaid, IsFirstRefused}
use Rattle.nms_files.specs.declared.orders_fault.OrdersFault.{OrdersFault}
use Rattle.nms_files.specs.declared.orders_fault.OrdersFault.TheVariants as fault

-- the order of a line that is one, and its desk
abbrev pub order_in : Line → Result DeskOrder LineFault
order_in (line.Sweep desk order) = Ok (record { desk = desk; order = order })
order_in (line.Change change) = Err line_fault.UnknownKind
order_in line.TakeOne = Err line_fault.UnknownKind
order_in line.TakeAll = Err line_fault.UnknownKind
order_in line.Publish = Err line_fault.UnknownKind
order_in (line.Tell desk) = Err line_fault.UnknownKind
order_in (line.Best desk sym) = Err line_fault.UnknownKind
order_in (line.Through desk sym price) = Err line_fault.UnknownKind

-- what a line says
abbrev pub order_reading : Settings → Record → Result DeskOrder LineFault
order_reading settings fields = reading settings.roster (source.Orders settings.desks) fields >>= order_in

-- each line says the order at its place
abbrev pub AreOrdersOf : Settings → List Record → List DeskOrder → Type 0
AreOrdersOf settings records orders = AreSaid (order_reading settings) records orders

-- the order's desk is one of the setup's, and its symbol and the participants that it names are of the roster
abbrev pub IsOrderFor : Settings → DeskOrder → Type 0
IsOrderFor settings order =
    (order.desk < settings.desks) × (order.order.sym < length settings.roster.syms)
    × AreBelow (length settings.roster.parts) order.order.self_help

-- the orders of a file
abbrev pub AreFileOrders : Settings → Option (List ℕ) → List DeskOrder → Type 0
AreFileOrders settings bytes orders = (records : List Record) × AreAllRecords bytes records × AreOrdersOf settings records orders

-- if a file is refused for a line, that is the first one that is refused
abbrev pub IsOrdersFault : Settings → Option (List ℕ) → OrdersFault → Type 0
IsOrdersFault settings bytes (fault.Line own) =
    (records : List Record) × AreAllRecords bytes records
    × IsFirstRefused (AreOrdersOf settings) (λ orders line. order_reading settings line ≡ Err own) records
IsOrdersFault settings bytes (fault.Record own) = ⊤

-- the orders of the lines so far, each of them for a desk and of the roster
abbrev pub AreOrdersFor : Settings → List Record → List DeskOrder → Type 0
AreOrdersFor settings records orders = AreOrdersOf settings records orders × All (IsOrderFor settings) orders

-- why one more line is refused
abbrev pub IsLineFault : Settings → List DeskOrder → Record → OrdersFault → Type 0
IsLineFault settings orders line (fault.Line own) = order_reading settings line ≡ Err own
IsLineFault settings orders line (fault.Record own) = ⊤
