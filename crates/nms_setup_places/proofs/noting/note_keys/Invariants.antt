-- `note_keys`: the findings so far and those of the keys that are left are those of all keys.
use Rattle.std.proofs.Common.{◌≡◌, ◌++◌, drop}
use Rattle.toml.specs.View.{table_view}
use Rattle.nms_setup_places.specs.Findings.{key_findings}
use Rattle.nms_setup_places.specs.Tables.{keys_of}
use Rattle.nms_setup_places.proofs.noting.note_keys.Given as goal

abbrev pub invariant-loop-key : goal.invariant-loop-key
invariant-loop-key l =
    l.found.items ++ key_findings l.choices l.table (table_view l.members) (drop l.key-index (keys_of l.table))
    ≡ l.fn.found.items ++ key_findings l.choices l.table (table_view l.members) (keys_of l.table)
