-- Share counts of quotations and orders. This product's own rule.
use Rattle.std.specs.Prelude.{ℕ, List, Option, Some, None, Result, Ok, Err}
use Rattle.nms_units.specs.Digits.{number_in}
use Rattle.nms_units.specs.declared.unit_fault.UnitFault.{UnitFault}
use Rattle.nms_units.specs.declared.unit_fault.UnitFault.TheVariants as fault

-- the shares that were read, or the fault
abbrev pub or_bad_shares : Option ℕ → Result ℕ UnitFault
or_bad_shares None = Err fault.BadShares
or_bad_shares (Some n) = Ok n

-- the share count that a text of 1 to 9 digits writes
abbrev pub shares_reading : List ℕ → Result ℕ UnitFault
shares_reading text = or_bad_shares (number_in 9 text)
