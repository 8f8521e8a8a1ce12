-- `flickers_of`: the quotations so far have their answers.
use Rattle.std.proofs.Common.{◌≡◌, map, take}
use Rattle.nms_stream.specs.Tapes.{sizes_in}
use Rattle.nms_trades.specs.Found.{has_flickered}
use Rattle.nms_trades.proofs.flickering.flickers_of.Given as goal

abbrev pub invariant-loop-side : goal.invariant-loop-side
invariant-loop-side l =
    l.flickers.items ≡ map (has_flickered (sizes_in l.tape) l.tape.changes.items l.execution) (take l.side-index l.passed)
