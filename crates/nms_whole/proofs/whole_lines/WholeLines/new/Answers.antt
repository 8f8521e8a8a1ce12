-- `new`: what is passed on from the beginning is the complete lines.
use Rattle.nms_whole.proofs.ReadFacts.{from_first}
use Rattle.nms_whole.proofs.whole_lines.WholeLines.new.Goals as goal

pub returns : goal.returns
returns g c = from_first (g.R.Read.remaining c.args.source) _ c.new.ensures
