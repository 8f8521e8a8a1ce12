-- `add_participants`: the participants of the rows so far.
use Rattle.std.proofs.Common.{◌≡◌, map, take}
use Rattle.toml.specs.View.{view}
use Rattle.nms_fees.specs.Setup.{participant_of}
use Rattle.nms_fees.proofs.setup_reading.add_participants.Given as goal

abbrev pub invariant-loop-row : goal.invariant-loop-row
invariant-loop-row l = record {
  parts : l.roster.parts ≡ map participant_of (map view (take l.row-index l.rows));
  syms : l.roster.syms ≡ l.fn.roster.syms;
}
