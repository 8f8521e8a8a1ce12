-- `has_text`: no word so far is the text, so those that are left decide.
use Rattle.std.proofs.Common.{◌≡◌, drop, map}
use Rattle.std.specs.List.{list_any}
use Rattle.toml.specs.View.{view}
use Rattle.nms_import.specs.Findings.{is_text}
use Rattle.nms_import.proofs.faults.has_text.Given as goal

abbrev pub invariant-loop-word : goal.invariant-loop-word
invariant-loop-word l =
    list_any (is_text l.text) (map view l.words) ≡ list_any (is_text l.text) (map view (drop l.word-index l.words))
