-- Faults: their numbers and codes, where they are, and the answer with the first that is found. This product's own rule.
use Rattle.std.specs.Prelude.{ℕ, Bool, true, false, List, codes, Option, Some, None, Result, Ok, Err}
use Rattle.nms_lines.specs.declared.line_fault.FaultPlace.TheVariants as place
use Rattle.nms_lines.specs.declared.line_fault.LineFault.{LineFault}
use Rattle.nms_lines.specs.declared.line_fault.LineFault.TheVariants as fault
use Rattle.nms_lines.specs.declared.line_fault.PlacedFault.{PlacedFault}

-- the number of a fault: if several hold for a record, the one of least number is answered. The numbers from 11 to 13 are of
-- faults that no record has
abbrev pub number_of : LineFault → ℕ
number_of fault.UnknownKind = 1
number_of fault.FieldCount = 2
number_of fault.UnknownParticipant = 3
number_of fault.UnknownSymbol = 4
number_of fault.BadState = 5
number_of fault.BadPrice = 6
number_of fault.BadShares = 7
number_of fault.HalfSide = 8
number_of fault.WrongFeed = 9
number_of fault.BadDesk = 10
number_of fault.BadLot = 14

-- the code of a fault: L and its number
abbrev pub code_of : LineFault → List ℕ
code_of fault.UnknownKind = codes "L1"
code_of fault.FieldCount = codes "L2"
code_of fault.UnknownParticipant = codes "L3"
code_of fault.UnknownSymbol = codes "L4"
code_of fault.BadState = codes "L5"
code_of fault.BadPrice = codes "L6"
code_of fault.BadShares = codes "L7"
code_of fault.HalfSide = codes "L8"
code_of fault.WrongFeed = codes "L9"
code_of fault.BadDesk = codes "L10"
code_of fault.BadLot = codes "L14"

-- a fault of the field after n others
abbrev pub at : LineFault → ℕ → PlacedFault
at fault before = record { fault = fault; place = place.Field before }

-- a fault of the record as such
abbrev pub of_record : LineFault → PlacedFault
of_record fault = record { fault = fault; place = place.Record }

-- what is read, or the fault without its place
abbrev pub unplaced : {A : Type 0} → Result A PlacedFault → Result A LineFault
unplaced (Ok x) = Ok x
unplaced (Err placed) = Err placed.fault

infixl 10 ◌>>=◌
-- the first fault, from left to right
abbrev pub ◌>>=◌ : {A B E : Type 0} → Result A E → (A → Result B E) → Result B E
(Ok x) >>= f = f x
(Err e) >>= f = Err e

-- the fault, if something is wrong
abbrev pub refuse_if : {E : Type 0} → Bool → E → Result (Unit {0}) E
refuse_if true fault = Err fault
refuse_if false fault = Ok tt

-- a fault of the field that is wrong, if one is
abbrev pub refuse_at : LineFault → Option ℕ → Result (Unit {0}) PlacedFault
refuse_at fault None = Ok tt
refuse_at fault (Some before) = Err (at fault before)

-- the field after n others, if it is wrong
abbrev pub wrong_at : ℕ → Bool → Option ℕ
wrong_at before true = Some before
wrong_at before false = None
