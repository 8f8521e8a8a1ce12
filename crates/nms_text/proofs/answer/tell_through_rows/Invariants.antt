-- `tell_through_rows`: what holds in each turn of its loop.
use Rattle.std.proofs.Common.{◌≡◌, ◌++◌, map, take}
use Rattle.nms_lines.specs.Text.{text_of}
use Rattle.nms_text.specs.Answers.{through_row}
use Rattle.nms_text.proofs.answer.tell_through_rows.Given as goal

-- the records so far were appended
abbrev pub invariant-loop-side : goal.invariant-loop-side
invariant-loop-side l = l.out.items ≡ l.fn.out.items ++ text_of (map (through_row l.roster) (take l.side-index l.quotations))
