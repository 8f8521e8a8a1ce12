-- The law about the reading of a record: among the faults that hold, the one of least number is answered, with its place. This
-- product's own rule.
use Rattle.std.specs.Prelude.{◌≡◌, ◌<◌, ◌↔◌, ◌++◌, true, false, IsOk, Err, Some, codes}
use Rattle.std.specs.Fmt.{decimal}
use Rattle.nms_quote.specs.Roster.{Listing}
use Rattle.nms_lines.specs.FaultTable.{fault_at, has_fault}
use Rattle.nms_lines.specs.Faults.{code_of, number_of}
use Rattle.nms_lines.specs.Layout.{Record}
use Rattle.nms_lines.specs.Lines.{placed_reading, reading}
use Rattle.nms_lines.specs.declared.line.Reading.{Reading}
use Rattle.nms_lines.specs.declared.line_fault.LineFault.{LineFault}
use Rattle.nms_lines.specs.declared.line_fault.PlacedFault.{PlacedFault}

-- the fault holds of the record, and none of a smaller number does
pub record IsLeastFault (roster : Listing) (from : Reading) (fields : Record) (fault : LineFault) : Type 0 where
  pub holds : has_fault roster from fields fault ≡ true
  pub least : (other : LineFault) → number_of other < number_of fault → has_fault roster from fields other ≡ false

-- no fault holds of the record
abbrev pub IsFaultless : Listing → Reading → Record → Type 0
IsFaultless roster from fields = (fault : LineFault) → has_fault roster from fields fault ≡ false

-- a record is read as a fault if and only if that fault is the least that holds. It is read as a line if and only if
-- none holds. A fault is placed where the table of faults has it. Its code is `L` and its number
pub record ReadsLeastFault : Type 0 where
  pub refused : (roster : Listing) (from : Reading) (fields : Record) (fault : LineFault)
      → (reading roster from fields ≡ Err fault) ↔ IsLeastFault roster from fields fault
  pub accepted : (roster : Listing) (from : Reading) (fields : Record)
      → IsOk (reading roster from fields) ↔ IsFaultless roster from fields
  pub placed : (roster : Listing) (from : Reading) (fields : Record) (refused : PlacedFault)
      → placed_reading roster from fields ≡ Err refused → fault_at roster from fields refused.fault ≡ Some refused.place
  pub coded : (fault : LineFault) → code_of fault ≡ codes "L" ++ decimal (number_of fault)
