-- `write_changes`: what holds in each turn of its loop.
use Rattle.std.proofs.Common.{take}
use Rattle.std.specs.Io.KnownBytes.{Appends}
use Rattle.nms_change_text.specs.ChangeText.{changes_text}
use Rattle.nms_review.proofs.tape.writing.write_changes.Given as goal

-- the records so far were written
abbrev pub invariant-loop-change : goal.invariant-loop-change
invariant-loop-change g l = Appends (g.W.Write.contents l.fn.out) (g.W.Write.contents l.out)
    (changes_text l.roster (take l.change-index l.changes))
