-- `try_send`: the rule stays when a change is sent, by `sends`.
use Rattle.std.proofs.Common.{length, ap, arith}
use Rattle.std.proofs.lemmas.Grind.{common_steps}
use Rattle.nms_feed.proofs.Moves.{sends}
use Rattle.nms_feed.proofs.sender.Sender.try_send.Goals as goal

pub push_as-requires-clause-rule : goal.push_as-requires-clause-rule
push_as-requires-clause-rule g c =
    rw (c.self.invariant.1.one, c.of-packed.ensures.packed) (
      sends _ _ _ _ _ (omega (arith, ap (λ s. length s.sent) c.self.view_is, c.requires.room)),
      λ items views kept at. tt,
    )

-- ---- goals that `grind` closes; the search that is tried before it takes longer

pub invariant_of-self-in-Err : goal.invariant_of-self-in-Err
invariant_of-self-in-Err g c = grind (arith, common_steps)

pub invariant_of-self : goal.invariant_of-self
invariant_of-self g c = grind (arith, common_steps)
