-- `least`: each turn adds the fault before those already compared.
use Rattle.std.proofs.Common.{arith}
use Rattle.nms_calls.proofs.SetupPlaceLemmas.{least-one_more}
use Rattle.nms_calls.proofs.setup_place.least.Goals as goal

pub loop-later-preserved : goal.loop-later-preserved
loop-later-preserved c = least-one_more c.args.found.now c.loop-later.later c.loop-later.first c.lesser.result _ (omega
    arith) c.loop-later.invariant c.lesser.ensures
