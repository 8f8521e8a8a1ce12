-- `check_pieces`: the ending by the counts is that of the pieces.
use Rattle.nms_verdicts.specs.Begun.{texts_of}
use Rattle.nms_verdicts.proofs.CheckFacts.{ends_all}
use Rattle.nms_verdicts.proofs.checking.check_pieces.Goals as goal

pub returns : goal.returns
returns g c =
    let tape = c.in_ok-replay.replay.tape.now in
    rw (← c.in_ok-replay.ensures.tape)
    (ends_all tape.setup.now tape.changes.items (texts_of c.args.pieces.now) c.in_ok-counts.counts c.ending_of.result c.in_ok-counts.ensures
    c.ending_of.ensures)
