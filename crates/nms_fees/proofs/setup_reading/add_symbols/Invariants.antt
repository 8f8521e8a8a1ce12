-- `add_symbols`: the symbols of the rows so far.
use Rattle.std.proofs.Common.{◌≡◌, map, take}
use Rattle.toml.specs.View.{view}
use Rattle.nms_fees.specs.Setup.{symbol_of}
use Rattle.nms_fees.proofs.setup_reading.add_symbols.Given as goal

abbrev pub invariant-loop-row : goal.invariant-loop-row
invariant-loop-row l = record {
  syms : l.roster.syms ≡ map symbol_of (map view (take l.row-index l.rows));
  parts : l.roster.parts ≡ l.fn.roster.parts;
}
