-- `note_others`: the faults so far and those of the names that are left are those of all names.
use Rattle.std.proofs.Common.{◌≡◌, ◌++◌, map, string_bytes}
use Rattle.toml.specs.View.{table_view}
use Rattle.nms_import.specs.Drafts.{doc_of, names_in}
use Rattle.nms_import.specs.Findings.{fault_of, unknown_faults}
use Rattle.nms_import.proofs.faults.note_others.Given as goal

abbrev pub invariant-loop-name : goal.invariant-loop-name
invariant-loop-name l =
    map fault_of l.found.items ++ unknown_faults (doc_of l.draft) l.table (map string_bytes l.name-iterator)
    ≡ map fault_of l.fn.found.items ++ unknown_faults (doc_of l.draft) l.table (names_in (table_view l.members))
