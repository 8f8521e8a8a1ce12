-- The code and the column of each fault of an execution's record. This product's own rule.
use Rattle.std.specs.Prelude.{ℕ, List, codes}
use Rattle.nms_trades.specs.declared.trade_fault.TradeFault.{TradeFault}
use Rattle.nms_trades.specs.declared.trade_fault.TradeFault.TheVariants as fault

abbrev pub code_of : TradeFault → List ℕ
code_of fault.UnknownKind = codes "X1"
code_of fault.FieldCount = codes "X2"
code_of fault.BadName = codes "X3"
code_of fault.UnknownSymbol = codes "X4"
code_of fault.BadPrice = codes "X5"
code_of fault.BadShares = codes "X6"
code_of fault.BadSide = codes "X7"
code_of fault.BadVersion = codes "X8"
code_of fault.Beyond = codes "X9"
code_of fault.UnknownParticipant = codes "X10"
code_of fault.BadFlags = codes "X11"
code_of fault.NoTimes = codes "X12"
code_of fault.NoChanges = codes "X13"

abbrev pub column_of : TradeFault → ℕ
column_of fault.UnknownKind = 1
column_of fault.FieldCount = 1
column_of fault.BadName = 2
column_of fault.UnknownSymbol = 3
column_of fault.BadPrice = 4
column_of fault.BadShares = 5
column_of fault.BadSide = 6
column_of fault.BadVersion = 7
column_of fault.Beyond = 7
column_of fault.UnknownParticipant = 8
column_of fault.BadFlags = 9
column_of fault.NoTimes = 7
column_of fault.NoChanges = 3
