-- `next`, `alike`: that of `begin`, over the board of this keeper.
use Rattle.std.proofs.Common.{ℕ, ◌<◌, length, subst}
use Rattle.nms_opening.specs.Alike.{ShowAlike}
use Rattle.nms_serving.specs.Keeping.{Keeping}
use Rattle.nms_serving.proofs.keeper.Keeper.next.Goals as goal

pub returns-in-Ok-begin-clause-alike : goal.returns-in-Ok-begin-clause-alike
returns-in-Ok-begin-clause-alike g c =
    subst (λ (k : Keeping g.row.X.Denot g.row.Y.Denot). (sym : ℕ) → sym < length k.board.sizes.lots
    → ShowAlike k.board c.begin.new.self.board sym) c.self.view_is c.in-Ok-begin.ensures.alike
