-- `fees_of`: the fees of the rows so far.
use Rattle.std.proofs.Common.{◌≡◌, map, take}
use Rattle.toml.specs.View.{view}
use Rattle.nms_fees.specs.Setup.{schedule_of}
use Rattle.nms_fees.proofs.setup_reading.fees_of.Given as goal

abbrev pub invariant-loop-row : goal.invariant-loop-row
invariant-loop-row l = l.schedules.items ≡ map schedule_of (map view (take l.row-index l.rows))
