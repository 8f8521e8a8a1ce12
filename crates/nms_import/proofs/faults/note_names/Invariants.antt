-- `note_names`: the faults so far and those of the names that are left are those of all names.
use Rattle.std.proofs.Common.{◌≡◌, ◌++◌, map, string_bytes}
use Rattle.toml.specs.View.{table_view}
use Rattle.nms_import.specs.Drafts.{names_in}
use Rattle.nms_import.specs.Findings.{fault_of, names_faults}
use Rattle.nms_import.specs.Keys.{see}
use Rattle.nms_import.proofs.faults.note_names.Given as goal

abbrev pub invariant-loop-name : goal.invariant-loop-name
invariant-loop-name l =
    map fault_of l.found.items ++ names_faults (see l.row) (table_view l.members) (map string_bytes l.name-iterator)
    ≡ map fault_of l.fn.found.items ++ names_faults (see l.row) (table_view l.members) (names_in (table_view l.members))
