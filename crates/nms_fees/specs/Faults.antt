-- Faults: their numbers and codes, the exit status of a program that one ends, and the least of several. This product's own
-- rule.
use Rattle.std.specs.Prelude.{codes, ℕ, nat_le, List, fold, Option, Some, None, if◌then◌else◌}
use Rattle.nms_fees.specs.declared.setup_fault.SetupFault.{SetupFault}
use Rattle.nms_fees.specs.declared.setup_fault.SetupFault.TheVariants as fault

-- the number of a fault: if several hold for a text, the one of least number is answered
abbrev pub number_of : SetupFault → ℕ
number_of fault.NotToml = 1
number_of fault.Missing = 2
number_of fault.UnknownKey = 3
number_of fault.BadName = 4
number_of fault.WrongType = 5
number_of fault.OutOfRange = 6
number_of fault.OverCap = 7
number_of fault.TooMany = 8
number_of fault.NoMemory = 9

-- the code of a fault: C and its number
abbrev pub code_of : SetupFault → List ℕ
code_of fault.NotToml = codes "C1"
code_of fault.Missing = codes "C2"
code_of fault.UnknownKey = codes "C3"
code_of fault.BadName = codes "C4"
code_of fault.WrongType = codes "C5"
code_of fault.OutOfRange = codes "C6"
code_of fault.OverCap = codes "C7"
code_of fault.TooMany = codes "C8"
code_of fault.NoMemory = codes "C9"

-- the exit status of a program that it ends: 3 for the setup, 5 for memory
abbrev pub status_of : SetupFault → ℕ
status_of fault.NoMemory = 5
status_of _ = 3

-- the fault with the smaller number of two findings
abbrev pub lesser : Option SetupFault → Option SetupFault → Option SetupFault
lesser None found = found
lesser (Some first) None = Some first
lesser (Some first) (Some second) = if nat_le (number_of first) (number_of second) then Some first else Some second

-- the fault of least number of all that are found
abbrev pub least : List (Option SetupFault) → Option SetupFault
least found = fold lesser None found
