-- `append_texts`: the texts so far and those that are left are all of them.
use Rattle.std.proofs.Common.{◌≡◌, ◌++◌, drop, map}
use Rattle.nms_drawing.specs.Texts.{texts_from}
use Rattle.nms_drawing.proofs.texts.append_texts.Given as goal

abbrev pub invariant-loop-place : goal.invariant-loop-place
invariant-loop-place l =
    l.out.items ++ texts_from l.place (map (λ text. text.now) (drop l.place l.texts))
    ≡ l.initial.out.items ++ texts_from 0 (map (λ text. text.now) l.texts)
