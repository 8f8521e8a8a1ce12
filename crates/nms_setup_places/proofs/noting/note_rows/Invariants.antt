-- `note_rows`: the findings so far and those of the elements that are left are those of all elements, and the names so far
-- are known.
use Rattle.std.proofs.Common.{◌≡◌, ◌++◌, [], drop, map, take}
use Rattle.toml.specs.View.{view}
use Rattle.nms_setup_places.specs.Findings.{array_findings}
use Rattle.nms_setup_places.specs.Known.{KnowsNames}
use Rattle.nms_setup_places.proofs.noting.note_rows.Given as goal

abbrev pub invariant-loop-place : goal.invariant-loop-place
invariant-loop-place l = record {
  found : l.found.items ++ array_findings l.choices l.array (map view (take l.place l.rows)) (map view (drop l.place l.rows))
      ≡ l.fn.found.items ++ array_findings l.choices l.array [] (map view l.rows);
  known : KnowsNames l.known (map view (take l.place l.rows));
}
