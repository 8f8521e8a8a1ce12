-- `text_of_object`: a brace, the members, a brace and the end of the line.
use Rattle.std.proofs.Common.{◌∷◌, [], refl}
use Rattle.nms_show.specs.Safe.{line_end, nothing, printed}
use Rattle.nms_show.proofs.SafeFacts.{printable_ascii}
use Rattle.nms_show.proofs.WriteFacts.{printable_then, safe_adds, safe_then, whole_text}
use Rattle.nms_show.proofs.object.text_of_object.Goals as goal

pub write_printable-requires : goal.write_printable-requires
write_printable-requires c = record { printable = printable_ascii _ refl }

pub write_safe-requires : goal.write_safe-requires
write_safe-requires c = record { safe = printed (125 ∷ []) (10 ∷ []) (printable_ascii _ refl) (line_end nothing) }

pub returns : goal.returns
returns c = λ own.
    whole_text _ _ c.new-text.ensures.items
    (safe_then _ _ _ (safe_adds _ _ (printable_then _ _ _ c.in_ok-write_printable.ensures (c.in_ok-write_members.ensures own)))
    c.in_ok-write_safe.ensures)
