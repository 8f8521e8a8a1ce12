-- `send`: nothing was sent yet.
use Rattle.std.proofs.Common.{◌≡◌}
use Rattle.nms_feed.proofs.sender.Sender.send.Given as goal

abbrev pub invariant-loop : goal.invariant-loop
invariant-loop g l = l.self ≡ l.initial.self
