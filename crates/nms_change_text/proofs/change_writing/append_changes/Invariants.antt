-- `append_changes`: what holds in each turn of its loop.
use Rattle.std.proofs.Common.{◌≡◌, ◌++◌, map, take}
use Rattle.nms_lines.specs.Text.{text_of}
use Rattle.nms_change_text.specs.ChangeText.{change_record}
use Rattle.nms_change_text.proofs.change_writing.append_changes.Given as goal

-- the records so far were appended
abbrev pub invariant-loop-change : goal.invariant-loop-change
invariant-loop-change l = l.out.items ≡ l.fn.out.items ++ text_of (map (change_record l.roster) (take l.change-index l.changes))
