-- The law about reading a text: among the faults that hold, the one of least number is answered. This product's own rule.
use Rattle.std.specs.Prelude.{◌≡◌, ◌<◌, ◌↔◌, true, false, IsOk, Err, codes, ◌++◌}
use Rattle.std.specs.Fmt.{decimal}
use Rattle.nms_quote.specs.Roster.{Name}
use Rattle.nms_fees.specs.FaultTable.{text_has}
use Rattle.nms_fees.specs.Faults.{code_of, number_of}
use Rattle.nms_fees.specs.Setup.{reading}
use Rattle.nms_fees.specs.declared.setup_fault.SetupFault.{SetupFault}

-- the fault holds of the text, and none of a smaller number does
pub record IsLeastFault (text : Name) (fault : SetupFault) : Type 0 where
  pub holds : text_has text fault ≡ true
  pub least : (other : SetupFault) → number_of other < number_of fault → text_has text other ≡ false

-- no fault holds of the text
abbrev pub IsFaultless : Name → Type 0
IsFaultless text = (fault : SetupFault) → text_has text fault ≡ false

-- a text is read as a fault if and only if that fault is the least that holds. It is read as a setup if and only if
-- none holds. A fault's code is `C` and its number
pub record ReadsLeastFault : Type 0 where
  pub refused : (text : Name) (fault : SetupFault) → (reading text ≡ Err fault) ↔ IsLeastFault text fault
  pub accepted : (text : Name) → IsOk (reading text) ↔ IsFaultless text
  pub coded : (fault : SetupFault) → code_of fault ≡ codes "C" ++ decimal (number_of fault)
