-- The codes that cross. This product's own rule.
use Rattle.std.specs.Prelude.{ℕ, Option, Some, None}
use Rattle.nms_fees.specs.declared.setup_fault.SetupFault.{SetupFault}
use Rattle.nms_fees.specs.declared.setup_fault.SetupFault.TheVariants as setup
use Rattle.nms_lines.specs.declared.line_fault.LineFault.{LineFault}
use Rattle.nms_lines.specs.declared.line_fault.LineFault.TheVariants as line
use Rattle.nms_calls.specs.declared.call_fault.CallFault.{CallFault}
use Rattle.nms_calls.specs.declared.call_fault.CallFault.TheVariants as fault

-- the number of a setup's fault, C1 to C9
abbrev pub setup_code : SetupFault → ℕ
setup_code setup.NotToml = 1
setup_code setup.Missing = 2
setup_code setup.UnknownKey = 3
setup_code setup.BadName = 4
setup_code setup.WrongType = 5
setup_code setup.OutOfRange = 6
setup_code setup.OverCap = 7
setup_code setup.TooMany = 8
setup_code setup.NoMemory = 9

-- 100 more than the number of a record's fault, L1 to L10 or L14
abbrev pub line_code : LineFault → ℕ
line_code line.UnknownKind = 101
line_code line.FieldCount = 102
line_code line.UnknownParticipant = 103
line_code line.UnknownSymbol = 104
line_code line.BadState = 105
line_code line.BadPrice = 106
line_code line.BadShares = 107
line_code line.HalfSide = 108
line_code line.WrongFeed = 109
line_code line.BadDesk = 110
line_code line.BadLot = 114

-- the code of why a call is refused
abbrev pub code_of : CallFault → ℕ
code_of (fault.Setup found) = setup_code found
code_of fault.Range = 10
code_of fault.NoParticipant = 11
code_of fault.NoSymbol = 12
code_of fault.Full = 13
code_of fault.NoRow = 14
code_of fault.Closed = 15
code_of fault.Doubted = 16
code_of fault.OpenAlready = 17
code_of fault.Null = 18
code_of fault.NoRoom = 19
code_of fault.NoView = 21
code_of (fault.Line found) = line_code found
code_of fault.PlanText = 111

-- the answer of a call: 0, or the code of why it is refused
abbrev pub answer_of : Option CallFault → ℕ
answer_of None = 0
answer_of (Some found) = code_of found
