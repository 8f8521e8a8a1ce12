-- `fill`: what holds in each turn of its loop.
use Rattle.std.specs.Io.KnownBytes.{Keeps}
use Rattle.nms_whole.specs.Held.{lines_left}
use Rattle.nms_whole.proofs.whole_lines.WholeLines.fill.Given as goal

-- what is still to be given is what it was
abbrev pub invariant-loop : goal.invariant-loop
invariant-loop g l = Keeps (lines_left g.R.Read.remaining l.fn.self) (lines_left g.R.Read.remaining l.self)
