-- `turns_of`: one turn more, by `have_more`; sorted, by `have_sorted`.
use Rattle.std.proofs.Common.{length, refl, arith}
use Rattle.nms_trades.proofs.TurnFacts.{have_more, have_sorted}
use Rattle.nms_trades.proofs.order.turns_of.Goals as goal

pub loop-place-preserved : goal.loop-place-preserved
loop-place-preserved c = rw c.in_ok-push.ensures.items (have_more c.loop-place.turns.items c.loop-place.place _ c.loop-place.invariant refl)

pub returns : goal.returns
returns c =
    have_sorted c.loop-place.turns.items c.sort_by_key.new.self.items (length c.args.executions.now) c.sort_by_key.ensures.permutation
    (λ place below. c.loop-place.invariant place (omega (arith, below, c.loop-place-test.false)))
