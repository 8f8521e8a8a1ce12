-- `read_once`: what holds in each turn of its loop.
use Rattle.std.specs.Io.KnownBytes.{Keeps}
use Rattle.nms_whole.proofs.whole_lines.read_once.Given as goal

-- reads that were interrupted took nothing
abbrev pub invariant-loop : goal.invariant-loop
invariant-loop g l = Keeps (g.R.Read.remaining l.fn.source) (g.R.Read.remaining l.source)
