-- `note_words`: the faults so far and those of the words that are left are those of all words.
use Rattle.std.proofs.Common.{◌≡◌, ◌++◌, [], drop, map, take}
use Rattle.toml.specs.View.{view}
use Rattle.nms_import.specs.Drafts.{doc_of}
use Rattle.nms_import.specs.Findings.{fault_of, words_faults}
use Rattle.nms_import.specs.Keys.{see}
use Rattle.nms_import.proofs.faults.note_words.Given as goal

abbrev pub invariant-loop-place : goal.invariant-loop-place
invariant-loop-place l =
    map fault_of l.found.items
    ++ words_faults (doc_of l.draft) (see l.row) (map view (take l.place l.words)) (map view (drop l.place l.words))
    ≡ map fault_of l.fn.found.items ++ words_faults (doc_of l.draft) (see l.row) [] (map view l.words)
