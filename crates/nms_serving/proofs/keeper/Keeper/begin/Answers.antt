-- `begin`: nothing is published of an empty tape, by `none_published`; and `alike`, since the tape took the opening changes of the
-- board, by `opens_alike`.
use Rattle.std.proofs.Common.{length, ◌≡◌, ◌∙◌, ap}
use Rattle.nms_serving.proofs.KeeperFacts.{none_published, opens_alike}
use Rattle.nms_serving.proofs.keeper.Keeper.begin.Goals as goal

pub open_with-requires-clause-begins : goal.open_with-requires-clause-begins
open_with-requires-clause-begins g c =
    c.changes-none.ensures.kept.counted ∙ ap length (none_published c.args.self.now.publisher c.requires.empty)

pub returns-in-Ok-open_with-clause-alike : goal.returns-in-Ok-open_with-clause-alike
returns-in-Ok-open_with-clause-alike g c =
    let next = c.open_with.new.self in
    let opened = c.in-Ok-open_with.ensures in
    opens_alike c.args.board.now next.board next.publisher c.in-Ok.first.items c.in-Ok.ensures (opened.taken ∙ c.deref.ensures.value)
    (opened.sizes ∙ c.requires.sizes) c.changes-kept.ensures.kept.standing
