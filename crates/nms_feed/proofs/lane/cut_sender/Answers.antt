-- `cut_sender`: the rule stays when a pass is cut off, by `cuts`; what the two know then.
use Rattle.std.proofs.Common.{sym}
use Rattle.nms_feed.proofs.Ends.{cuts}
use Rattle.nms_feed.proofs.lane.cut_sender.Goals as goal

pub another-pass-requires-clause-rule : goal.another-pass-requires-clause-rule
another-pass-requires-clause-rule c = rw c.requires.knows (cuts _ _ _ (sym c.in-Some.ensures))
