-- Codes in words. This product's own rule.
use Rattle.std.specs.Prelude.{ℕ, ◌==◌, codes, List, option_map, Option, Some, None, if◌then◌else◌}
use Rattle.nms_fees.specs.declared.setup_fault.SetupFault.{SetupFault}
use Rattle.nms_fees.specs.declared.setup_fault.SetupFault.TheVariants as setup
use Rattle.nms_lines.specs.declared.line_fault.LineFault.{LineFault}
use Rattle.nms_lines.specs.declared.line_fault.LineFault.TheVariants as line
use Rattle.nms_calls.specs.Written.{text_fault}
use Rattle.nms_calls.specs.declared.call_fault.CallFault.{CallFault}
use Rattle.nms_calls.specs.declared.call_fault.CallFault.TheVariants as fault

abbrev pub setup_text : SetupFault → List ℕ
setup_text setup.NotToml = codes "C1: not a TOML document"
setup_text setup.Missing = codes "C2: a key is missing"
setup_text setup.UnknownKey = codes "C3: an unknown key"
setup_text setup.BadName = codes "C4: a bad name, or the same name twice"
setup_text setup.WrongType = codes "C5: a value of another kind"
setup_text setup.OutOfRange = codes "C6: a value out of range"
setup_text setup.OverCap = codes "C7: a fee over its cap"
setup_text setup.TooMany = codes "C8: too many participants or symbols"
setup_text setup.NoMemory = codes "C9: out of memory"

abbrev pub line_text : LineFault → List ℕ
line_text line.UnknownKind = codes "L1: unknown kind"
line_text line.FieldCount = codes "L2: wrong number of fields"
line_text line.UnknownParticipant = codes "L3: unknown participant"
line_text line.UnknownSymbol = codes "L4: unknown symbol"
line_text line.BadState = codes "L5: not a state, a side or a flag"
line_text line.BadPrice = codes "L6: not a price"
line_text line.BadShares = codes "L7: not a share count"
line_text line.HalfSide = codes "L8: half a side"
line_text line.WrongFeed = codes "L9: wrong feed"
line_text line.BadDesk = codes "L10: no such desk"
line_text line.BadLot = codes "L14: not a round lot"

-- a fault in words
abbrev pub text_of : CallFault → List ℕ
text_of (fault.Setup found) = setup_text found
text_of (fault.Line found) = line_text found
text_of fault.Range = codes "a number is out of its range"
text_of fault.NoParticipant = codes "no such participant"
text_of fault.NoSymbol = codes "no such symbol"
text_of fault.Full = codes "2^63 changes were applied: the board takes no more"
text_of fault.NoRow = codes "nothing stands there"
text_of fault.Closed = codes "the board is not open"
text_of fault.Doubted = codes "the plan is not confirmed"
text_of fault.OpenAlready = codes "the board is open already"
text_of fault.Null = codes "a null pointer"
text_of fault.NoRoom = codes "the buffer is too small"
text_of fault.NoView = codes "no look shows such a view"
text_of fault.PlanText = codes "L11: not the text of a plan"

-- the setup's fault of a code
abbrev pub setup_with : ℕ → Option SetupFault
setup_with n =
    if n == 1 then Some setup.NotToml else (
    if n == 2 then Some setup.Missing else (
    if n == 3 then Some setup.UnknownKey else (
    if n == 4 then Some setup.BadName else (
    if n == 5 then Some setup.WrongType else (
    if n == 6 then Some setup.OutOfRange else (
    if n == 7 then Some setup.OverCap else (
    if n == 8 then Some setup.TooMany else (
    if n == 9 then Some setup.NoMemory else None))))))))

-- the record's fault of a code
abbrev pub line_with : ℕ → Option LineFault
line_with n =
    if n == 101 then Some line.UnknownKind else (
    if n == 102 then Some line.FieldCount else (
    if n == 103 then Some line.UnknownParticipant else (
    if n == 104 then Some line.UnknownSymbol else (
    if n == 105 then Some line.BadState else (
    if n == 106 then Some line.BadPrice else (
    if n == 107 then Some line.BadShares else (
    if n == 108 then Some line.HalfSide else (
    if n == 109 then Some line.WrongFeed else (
    if n == 110 then Some line.BadDesk else (
    if n == 114 then Some line.BadLot else None))))))))))

-- another fault of a code
abbrev pub own_with : ℕ → Option CallFault
own_with n =
    if n == 10 then Some fault.Range else (
    if n == 11 then Some fault.NoParticipant else (
    if n == 12 then Some fault.NoSymbol else (
    if n == 13 then Some fault.Full else (
    if n == 14 then Some fault.NoRow else (
    if n == 15 then Some fault.Closed else (
    if n == 16 then Some fault.Doubted else (
    if n == 17 then Some fault.OpenAlready else (
    if n == 18 then Some fault.Null else (
    if n == 19 then Some fault.NoRoom else (
    if n == 21 then Some fault.NoView else (
    if n == 111 then Some fault.PlanText else None)))))))))))

abbrev pub or_line : ℕ → Option LineFault → Option CallFault
or_line n None = own_with n
or_line n (Some found) = Some (fault.Line found)

abbrev pub or_setup : ℕ → Option SetupFault → Option CallFault
or_setup n None = or_line n (line_with n)
or_setup n (Some found) = Some (fault.Setup found)

-- the fault of a code
abbrev pub fault_with : ℕ → Option CallFault
fault_with n = or_setup n (setup_with n)

-- what a code says
abbrev pub code_text : ℕ → Option (List ℕ)
code_text n = if n == 0 then Some (codes "done") else option_map text_of (fault_with n)

-- why it is not written
abbrev pub code_fault : Option (List ℕ) → List ℕ → Option CallFault
code_fault None out = Some fault.NoRow
code_fault (Some text) out = text_fault text out
