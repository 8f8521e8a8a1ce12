-- `tell_answers`: what holds in each turn of its loop.
use Rattle.std.proofs.Common.{◌≡◌, ◌++◌, take}
use Rattle.std.specs.List.{flat_map}
use Rattle.nms_lines.specs.Text.{text_of}
use Rattle.nms_text.specs.LiveText.{answer_records}
use Rattle.nms_text.proofs.live_text.tell_answers.Given as goal

-- the answers so far were appended
abbrev pub invariant-loop-answer : goal.invariant-loop-answer
invariant-loop-answer l = l.out.items ≡ l.fn.out.items ++ text_of (flat_map (answer_records l.roster) (take l.answer-index l.answers))
