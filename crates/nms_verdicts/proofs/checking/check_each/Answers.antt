-- `check_each`: by `counts_none`, `counts_next` and `counts_all`.
use Rattle.std.proofs.Common.{◌∙◌, refl}
use Rattle.nms_verdicts.proofs.CheckFacts.{counts_all, counts_next, counts_none}
use Rattle.nms_verdicts.proofs.checking.check_each.Goals as goal

pub loop-piece-init : goal.loop-piece-init
loop-piece-init g c =
    let tape = c.args.replay.now.tape.now in
    record { tape = refl; counts = counts_none tape.setup.now tape.changes.items }

pub loop-piece-preserved : goal.loop-piece-preserved
loop-piece-preserved g c =
    let tape = c.loop-piece.replay.tape.now in
    record {
      tape = c.check_piece.ensures.tape ∙ c.loop-piece.invariant.tape;
      counts = rw c.check_piece.ensures.tape
          (counts_next tape.setup.now tape.changes.items c.args.pieces.now c.loop-piece.piece-index _ c.loop-piece.counts
          c.counted-counts.result c.in_ok-outcome.outcome c.loop-piece.invariant.counts c.loop-piece-test.true
          c.in_ok-outcome.ensures.outcome c.counted-counts.ensures);
    }

pub returns : goal.returns
returns g c =
    let tape = c.loop-piece.replay.tape.now in
    rw (← c.loop-piece.invariant.tape)
    (counts_all tape.setup.now tape.changes.items c.args.pieces.now c.loop-piece.piece-index c.loop-piece.counts
    c.loop-piece.invariant.counts c.loop-piece-test.false)
