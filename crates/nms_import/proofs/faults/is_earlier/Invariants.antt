-- `is_earlier`: no list so far has the text, so those that are left decide.
use Rattle.std.proofs.Common.{◌≡◌, drop, map}
use Rattle.nms_import.specs.Drafts.{doc_of}
use Rattle.nms_import.specs.Findings.{is_among_lists, is_earlier}
use Rattle.nms_import.specs.Keys.{see}
use Rattle.nms_import.proofs.faults.is_earlier.Given as goal

abbrev pub invariant-loop-other : goal.invariant-loop-other
invariant-loop-other l =
    is_earlier (doc_of l.draft) (see l.row) l.text
    ≡ is_among_lists (doc_of l.draft) (see l.row) l.text (map see (drop l.other-index l.draft.keys.now))
