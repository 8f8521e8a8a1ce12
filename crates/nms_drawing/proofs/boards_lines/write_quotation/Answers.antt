-- `write_quotation`: each member is printable, so the first ones are.
use Rattle.std.proofs.Common.{List, ℕ}
use Rattle.std.specs.Borrow.{Bor}
use Rattle.std.proofs.lemmas.List.Elements.{All-take}
use Rattle.nms_show.specs.Safe.{IsPrintable, own_text}
use Rattle.nms_show.specs.declared.item.Item.{Item}
use Rattle.nms_show.proofs.Offered.{plain_members}
use Rattle.nms_drawing.proofs.boards_lines.write_quotation.Goals as goal

pub returns : goal.returns
returns g c =
    c.write_object.ensures.safe
    (All-take (λ (member : Bor (List ℕ) × Item). IsPrintable member.0.now × IsPrintable (own_text member.1)) c.args.shown _
    (plain_members _ c.members_of-members.ensures))
