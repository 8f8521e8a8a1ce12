-- `is_key`: no key so far is one, so those that are left decide.
use Rattle.std.proofs.Common.{◌≡◌, drop, map}
use Rattle.nms_import.specs.Keys.{is_key, see}
use Rattle.nms_import.proofs.keys.is_key.Given as goal

abbrev pub invariant-loop-row : goal.invariant-loop-row
invariant-loop-row l = is_key (map see l.rows) l.kind l.table l.name ≡ is_key (map see (drop l.row-index l.rows)) l.kind l.table l.name
