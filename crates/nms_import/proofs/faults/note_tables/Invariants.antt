-- `note_tables`: the faults so far and those of the tables that are left are those of all tables.
use Rattle.std.proofs.Common.{◌≡◌, ◌++◌, drop, map}
use Rattle.nms_import.specs.Drafts.{doc_of}
use Rattle.nms_import.specs.Findings.{fault_of, tables_faults}
use Rattle.nms_import.specs.Keys.{see}
use Rattle.nms_import.proofs.faults.note_tables.Given as goal

abbrev pub invariant-loop-row : goal.invariant-loop-row
invariant-loop-row l =
    map fault_of l.found.items ++ tables_faults (doc_of l.draft) (map see (drop l.row-index l.draft.keys.now))
    ≡ map fault_of l.fn.found.items ++ tables_faults (doc_of l.draft) (doc_of l.draft).keys
