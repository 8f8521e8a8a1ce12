-- `give`: its loop, where a batch that came back is as it was, and the batch that was given at last.
use Rattle.std.proofs.Common.{refl, ◌∙◌}
use Rattle.nms_versions.proofs.publisher.give.Goals as goal

pub loop-init : goal.loop-init
loop-init g c = record { desk = refl; pending = refl; batch = refl }

pub loop-preserved : goal.loop-preserved
loop-preserved g c =
    let inv = c.loop.invariant in
    record {
      desk = c.append.ensures.desk ∙ inv.desk;
      pending = c.in-Err.ensures.pending.1 ∙ inv.pending;
      batch = c.in-Err.ensures.pending.0 ∙ inv.batch;
    }

pub returns-in-Ok-clause-desk : goal.returns-in-Ok-clause-desk
returns-in-Ok-clause-desk g c = c.append.ensures.desk ∙ c.loop.invariant.desk

pub returns-in-Ok-clause-pending : goal.returns-in-Ok-clause-pending
returns-in-Ok-clause-pending g c = rw (c.loop.invariant.pending, c.loop.invariant.batch) at c.in-Ok.ensures.pending
