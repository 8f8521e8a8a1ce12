-- `note_keys`: the faults so far and those of the keys that are left are those of all keys.
use Rattle.std.proofs.Common.{◌≡◌, ◌++◌, drop, map}
use Rattle.nms_import.specs.Drafts.{doc_of}
use Rattle.nms_import.specs.Findings.{fault_of, keys_faults}
use Rattle.nms_import.specs.Keys.{see}
use Rattle.nms_import.proofs.faults.note_keys.Given as goal

abbrev pub invariant-loop-row : goal.invariant-loop-row
invariant-loop-row l =
    map fault_of l.found.items ++ keys_faults (doc_of l.draft) l.table (map see (drop l.row-index l.draft.keys.now))
    ≡ map fault_of l.fn.found.items ++ keys_faults (doc_of l.draft) l.table (doc_of l.draft).keys
