-- `Replay::rewind`: a cleared board is before the first change.
use Rattle.nms_stream.specs.Tapes.{sizes_in}
use Rattle.nms_stream.proofs.ReplayFacts.{cleared}
use Rattle.nms_stream.proofs.replay.Replay.rewind.Goals as goal

pub invariant_of-self : goal.invariant_of-self
invariant_of-self c =
    let replay = c.args.self.now in
    record { at = cleared (sizes_in replay.tape.now) replay.tape.now.changes.items replay.board c.clear.new.self replay.at c.clear.ensures }
