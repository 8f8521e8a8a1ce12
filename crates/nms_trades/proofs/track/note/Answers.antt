-- `note`: a mark more, by `marked`; none, by `unmarked`.
use Rattle.std.proofs.Common.{◌∙◌}
use Rattle.nms_trades.proofs.TrackFacts.{marked, unmarked}
use Rattle.nms_trades.proofs.track.note.Goals as goal

pub returns : goal.returns
returns c = λ all upto is counted has.
    rw c.in_ok-push.ensures.items (marked c.args.version c.args.limits c.args.marks.now.items all upto is counted has)

pub returns-then-is_same : goal.returns-then-is_same
returns-then-is_same c =
    unmarked c.args.version c.args.limits c.args.marks.now.items c.len-count.result c.index.result.now
    (c.len-count.ensures ∙ c.args.marks.now.ok.0)
    c.if-count-gt0.true c.index.ensures (c.is_same.ensures c.if-is_same.true)
