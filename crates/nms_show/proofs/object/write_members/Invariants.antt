-- `write_members`: if the keys and the own texts are printable, what was written so far is.
use Rattle.std.proofs.Common.{All, Some}
use Rattle.nms_show.specs.Safe.{IsPrintable, own_text}
use Rattle.nms_show.specs.Written.{Adds}
use Rattle.nms_show.proofs.object.write_members.Given as goal

abbrev pub invariant-loop-place : goal.invariant-loop-place
invariant-loop-place l =
    All (λ member. IsPrintable member.0.now × IsPrintable (own_text member.1)) l.fn.members
    → Adds IsPrintable (Some l.fn.text.items) (Some l.text.items)
