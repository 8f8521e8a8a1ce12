-- `has_word`: no word so far is the text, so those that are left decide.
use Rattle.std.proofs.Common.{◌≡◌, drop, map}
use Rattle.std.specs.List.{list_any}
use Rattle.std.specs.Str.{bytes_eq}
use Rattle.nms_import.proofs.right.has_word.Given as goal

abbrev pub invariant-loop-word : goal.invariant-loop-word
invariant-loop-word l =
    list_any (λ word. bytes_eq word l.text) (map (λ word. word.now) l.words)
    ≡ list_any (λ word. bytes_eq word l.text) (map (λ word. word.now) (drop l.word-index l.words))
