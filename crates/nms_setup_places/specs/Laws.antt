-- The law of the two readers of a setup. This product's own rule.
use Rattle.std.specs.Prelude.{◌≡◌, List, map, Option, Some}
use Rattle.std.specs.Result.{result_err}
use Rattle.nms_quote.specs.Roster.{Name}
use Rattle.nms_fees.specs.Faults.{least}
use Rattle.nms_fees.specs.Setup.{reading}
use Rattle.nms_fees.specs.declared.setup_fault.SetupFault.{SetupFault}
use Rattle.nms_fees.specs.declared.setup_fault.SetupFault.TheVariants as fault
use Rattle.nms_setup_places.specs.Examined.{IsExamined}
use Rattle.nms_setup_places.specs.declared.finding.Finding.{Finding}
use Rattle.nms_setup_places.specs.declared.reading.Examined.{Examined}
use Rattle.nms_setup_places.specs.declared.reading.Examined.TheVariants as examined

-- the fault of least number among some mistakes
abbrev pub least_of : List Finding → Option SetupFault
least_of found = least (map (λ finding. Some finding.fault) found)

-- the fault of least number that an examination found, if it found any
abbrev pub least_found : Examined → Option SetupFault
least_found (examined.NoToml place) = Some fault.NotToml
least_found (examined.Document document found) = least_of found.items

-- what a text is refused for is the least of what an examination of it found
abbrev pub ReadsLeastFinding : Type 0
ReadsLeastFinding = (text : Name) (examined : Examined) → IsExamined text examined → result_err (reading text) ≡ least_found examined
